-- The answer of a line from the answers of its parts, front to back. Assumes nothing.
use Rattle.std.proofs.Common.{◌≡◌, ℕ, Bool, true, false, cond, List, [], ◌∷◌, ◌++◌, get_or, Some, None, Ok, Err, Option, sym, refl, ap, ◌∙◌}
use Rattle.types.specs.declared.Verb.{Verb}
use Rattle.lines.specs.declared.commands.Command.TheVariants.{Make as Command-Make, Call as Command-Call}
use Rattle.lines.specs.declared.commands.Fault.{Fault}
use Rattle.lines.specs.declared.LineVerb.{LineVerb}
use Rattle.lines.specs.declared.LineVerb.TheVariants.{Make, Call}
use Rattle.lines.specs.declared.Numeral.{Numeral}
use Rattle.lines.specs.Grammar.{Part, is_make, number_at, end_at, value_of, second_at, letter_part, space_part, number_part, end_part, call_parts, make_parts, behind_parts, parts, make_of, call_of, command_of, first_fault, unless, answer}
use Rattle.lines.specs.Scan.{verb_answer, number_answer, end_answer}

-- An answer is a value only without a fault, and then it is that value; else it is the fault.
pub unless_ok : {A : Type 0} (o : Option Fault) (x y : A) → Ok y ≡ unless o x → (o ≡ None) × (x ≡ y)
unless_ok None x y h = (refl, cc)
unless_ok (Some f) x y h = absurd cc

unless_err : {A : Type 0} (o : Option Fault) (x : A) (f : Fault) → Err f ≡ unless o x → o ≡ Some f
unless_err None x f h = absurd cc
unless_err (Some g) x f h = cc

some_step : (b : Bool) (o q : Option Fault) (g f : Fault) → (o ≡ Some f → q ≡ Some f) → cond b o (Some g) ≡ Some f → cond b q (Some g) ≡ Some f
some_step true o q g f more h = more h
some_step false o q g f more h = h

none_step : (b : Bool) (o q r : Option Fault) (g : Fault) → (o ≡ None → q ≡ r) → cond b o (Some g) ≡ None → cond b q (Some g) ≡ r
none_step true o q r g more h = more h
none_step false o q r g more h = absurd cc

-- A fault of the front is the fault of the whole.
front_fault : (ps qs : List Part) (f : Fault) → first_fault ps ≡ Some f → first_fault (ps ++ qs) ≡ Some f
front_fault [] qs f h = absurd cc
front_fault (p ∷ ps) qs f h = some_step p.fits (first_fault ps) (first_fault (ps ++ qs)) _ f (front_fault ps qs f) h

-- Where the front has no fault, the rest decides.
front_fits : (ps qs : List Part) → first_fault ps ≡ None → first_fault (ps ++ qs) ≡ first_fault qs
front_fits [] qs h = refl
front_fits (p ∷ ps) qs h = none_step p.fits (first_fault ps) (first_fault (ps ++ qs)) (first_fault qs) _ (front_fits ps qs) h

verb_make : (b : Bool) (w : Verb) → cond b Make (Call w) ≡ Make → b ≡ true
verb_make true w h = refl
verb_make false w h = absurd cc

verb_call : (b : Bool) (w v : Verb) → cond b Make (Call w) ≡ Call v → (b ≡ false) × (w ≡ v)
verb_call true w v h = absurd cc
verb_call false w v h = (refl, cc)

-- A fault of the letter is the line's.
pub verb_fault : (line : List ℕ) (f : Fault) → Err f ≡ verb_answer line → Err f ≡ answer line
unfolding answer
verb_fault line f verb =
    sym (ap (λ o. unless o (command_of line)) (front_fault (letter_part line ∷ []) (space_part line 1 ∷ number_part line 2 ∷ behind_parts line) f (unless_err _ _ f verb)))

module _ (line : List ℕ) (v : LineVerb) (verb : Ok v ≡ verb_answer line) where
  -- Where the letter fits, the parts behind it decide.
  letter_fits : first_fault (parts line) ≡ first_fault (space_part line 1 ∷ number_part line 2 ∷ behind_parts line)
  letter_fits = front_fits (letter_part line ∷ []) (space_part line 1 ∷ number_part line 2 ∷ behind_parts line) (unless_ok _ _ v verb).0

  -- A fault of the first number, or of the space before it, is the line's.
  pub first_fault_lem : (f : Fault) → Err f ≡ number_answer line 1 → Err f ≡ answer line
  unfolding answer
  first_fault_lem f first =
      sym (ap (λ o. unless o (command_of line)) (letter_fits ∙ front_fault (space_part line 1 ∷ number_part line 2 ∷ []) (behind_parts line) f (unless_err _ _ f first)))

  module _ (n : Numeral) (first : Ok n ≡ number_answer line 1) where
    -- Where the first number fits, the parts behind it decide.
    first_fits : answer line ≡ unless (first_fault (behind_parts line)) (command_of line)
    unfolding answer
    first_fits =
        ap (λ o. unless o (command_of line)) (letter_fits ∙ front_fits (space_part line 1 ∷ number_part line 2 ∷ []) (behind_parts line) (unless_ok _ _ n first).0)

    behind_is : (b : Bool) → is_make (get_or line 0 0) ≡ b → answer line ≡ unless (first_fault (cond b (make_parts line) (call_parts line))) (cond b (make_of line) (call_of line))
    behind_is b is = first_fits ∙ ap (λ b. unless (first_fault (cond b (make_parts line) (call_parts line))) (cond b (make_of line) (call_of line))) is

    -- A call ends behind its number.
    pub call_ends : (w : Verb) → v ≡ Call w → end_answer line n.end (Command-Call w n.value) ≡ answer line
    call_ends w is =
        let call = verb_call _ _ w ((unless_ok _ _ v verb).1 ∙ is) in
        sym
        (behind_is false call.0 ∙ ap (λ u. end_answer line (end_at line 2) (Command-Call u (value_of (number_at line 2)))) call.1 ∙ ap (λ k. end_answer line k.end (Command-Call w k.value)) (unless_ok _ _ n first).1)

    make_behind : v ≡ Make → answer line ≡ unless (first_fault (make_parts line)) (make_of line)
    make_behind is = behind_is true (verb_make _ _ ((unless_ok _ _ v verb).1 ∙ is))

    -- A fault of the second number, or of the space before it, is the line's.
    pub second_fault : v ≡ Make → (f : Fault) → Err f ≡ number_answer line n.end → Err f ≡ answer line
    second_fault is f second =
        let here : Err f ≡ number_answer line (end_at line 2) = second ∙ ap (λ k. number_answer line k.end) (sym (unless_ok _ _ n first).1) in
        sym
        (make_behind is ∙ ap (λ o. unless o (make_of line)) (front_fault (space_part line (end_at line 2) ∷ number_part line (second_at line) ∷ []) (end_part line (end_at line (second_at line)) ∷ []) f (unless_err _ _ f here)))

    -- A making ends behind its second number.
    pub make_ends : v ≡ Make → (m : Numeral) → Ok m ≡ number_answer line n.end → end_answer line m.end (Command-Make n.value m.value) ≡ answer line
    make_ends is m second =
        let here : Ok m ≡ number_answer line (end_at line 2) = second ∙ ap (λ k. number_answer line k.end) (sym (unless_ok _ _ n first).1) in
        let read = unless_ok _ _ m here in
        let fits = front_fits (space_part line (end_at line 2) ∷ number_part line (second_at line) ∷ []) (end_part line (end_at line (second_at line)) ∷ []) read.0 in
        sym
        (make_behind is ∙ ap (λ o. unless o (make_of line)) fits ∙ ap (λ k. end_answer line k.end (Command-Make (value_of (number_at line 2)) k.value)) read.1 ∙ ap (λ k. end_answer line m.end (Command-Make k.value m.value)) (unless_ok _ _ n first).1)

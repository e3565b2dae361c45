-- A line is accepted exactly when a command writes it. Assumes nothing.
use Rattle.std.proofs.Common.{◌≡◌, ℕ, ◌+◌, ◌^◌, ◌<◌, ◌≤◌, Bool, true, false, cond, eqb, leb, List, [], ◌∷◌, ◌++◌, length, get_or, take, drop, Some, None, Ok, decimal, Option, Result, sym, refl, ap, ◌∙◌, subst, ⊎_elim, add-zero, arith}
use Rattle.std.proofs.lemmas.Fmt.{decimal-digits_value, digits_value-decimal, digits_decimal}
use Rattle.std.proofs.lemmas.List.{append-nil, take-append-drop, take_at, drop_at, drop-drop, drop_more, drop_all, get_or-drop, get_or_past, length-drop}
use Rattle.std.proofs.lemmas.Str.Parse.{digits_value_short}
use Rattle.std.proofs.lemmas.Bool.{eqb-true, eq-eqb, leb-true, le-leb, cases_lt, cond_both, cond-true}
use Rattle.std.proofs.lemmas.Bool.Decides.{nat_tests}
use Rattle.types.specs.declared.Verb.{Verb}
use Rattle.types.specs.declared.Verb.TheVariants.{ClaimRead, ClaimWrite, Move, Leave}
use Rattle.lines.specs.declared.commands.Command.{Command}
use Rattle.lines.specs.declared.commands.Command.TheVariants.{Make, Call}
use Rattle.lines.specs.declared.commands.Fault.{Fault}
use Rattle.lines.specs.Grammar.{Part, is_letter, is_make, call_verb, run_length, number_at, end_at, second_at, value_of, well_formed, make_parts, call_parts, parts, make_of, call_of, command_of, first_fault, unless, answer}
use Rattle.lines.specs.Written.{letter_of, line_of, Small, Exact}
use Rattle.lines.proofs.Numbers.{numerals, number_digits, formed, decimal_formed, run_front}
use Rattle.lines.proofs.Steps.{unless_ok}

-- From the tests of the parts to the bytes at their places.
module _ (line : List ℕ) (place : ℕ) where
  byte_at : (get_or line place 0 ≡ 0 → ⊥) → drop place line ≡ get_or line place 0 ∷ drop (place + 1) line
  byte_at some = ⊎_elim (λ inside. drop_more line place 0 inside) (λ past. absurd (some (get_or_past line place 0 past))) (cases_lt place (length line))

  space_at : eqb (get_or line place 0) 32 ≡ true → drop place line ≡ 32 ∷ drop (place + 1) line
  space_at h =
      let is = eqb-true (get_or line place 0) 32 h in
      byte_at (λ none. omega arith) ∙ ap (λ b. b ∷ drop (place + 1) line) is

  number_small : well_formed (number_at line place) ≡ true → value_of (number_at line place) ≤ 999
  number_small h = omega (arith, digits_value_short numerals (number_at line place) 3 (number_digits line place) (formed (number_at line place) h).few)

  number_at_lem : well_formed (number_at line place) ≡ true → drop place line ≡ decimal (value_of (number_at line place)) ++ drop (end_at line place) line
  number_at_lem h =
      let form = formed (number_at line place) h in
      let same = decimal-digits_value numerals (number_at line place) (number_digits line place) form.some form.leading (omega (arith, number_small h)) in
      sym (take-append-drop (run_length (drop place line)) (drop place line)) ∙ ap (λ l. number_at line place ++ l) (drop-drop (run_length (drop place line)) place line) ∙ ap (λ l. l ++ drop (end_at line place) line) (sym same)

  end_at_lem : leb (length line) place ≡ true → drop place line ≡ []
  end_at_lem h = drop_all place line (leb-true (length line) place h)

-- Every part fits.
abbrev Fits : List Part → Type 0
Fits [] = Unit {0}
Fits (p ∷ ps) = (p.fits ≡ true) × Fits ps

-- There is no fault exactly where every part fits.
fits_step : (b : Bool) (o : Option Fault) (g : Fault) → cond b o (Some g) ≡ None → (b ≡ true) × (o ≡ None)
fits_step true o g h = (refl, h)
fits_step false o g h = absurd cc

fits_from : (ps : List Part) → first_fault ps ≡ None → Fits ps
fits_from [] h = tt
fits_from (p ∷ ps) h = let both = fits_step p.fits (first_fault ps) _ h in (both.0, fits_from ps both.1)

none_from : (ps : List Part) → Fits ps → first_fault ps ≡ None
none_from [] fit = refl
none_from (p ∷ ps) fit = cond-true p.fits (first_fault ps) _ fit.0 ∙ none_from ps fit.1

-- The letter of a call's verb.
letter_back : (b : ℕ) → is_letter b ≡ true → is_make b ≡ false → letter_of (call_verb b) ≡ b
letter_back b known call =
    cond_both (eqb b 114) _ _ (λ v. letter_of v ≡ b) (λ r. sym (eqb-true b 114 r))
    (λ r. cond_both (eqb b 119) _ _ (λ v. letter_of v ≡ b) (λ w. sym (eqb-true b 119 w))
    (λ w. cond_both (eqb b 109) _ _ (λ v. letter_of v ≡ b) (λ m. sym (eqb-true b 109 m)) (λ m. grind (arith, nat_tests))))

-- What an accepted line holds.
module _ (line : List ℕ) where
  letter_at : is_letter (get_or line 0 0) ≡ true → line ≡ get_or line 0 0 ∷ drop 1 line
  letter_at known = byte_at line 0 (λ none. grind (arith, nat_tests))

  front_at : Fits (parts line) → line ≡ get_or line 0 0 ∷ 32 ∷ (decimal (value_of (number_at line 2)) ++ drop (end_at line 2) line)
  front_at fit =
      letter_at fit.0 ∙ ap (λ l. get_or line 0 0 ∷ l) (space_at line 1 fit.1.0) ∙ ap (λ l. get_or line 0 0 ∷ 32 ∷ l) (number_at_lem line 2 fit.1.1.0)

  call_written : is_make (get_or line 0 0) ≡ false → Fits (parts line) → Small (call_of line) × (line ≡ line_of (call_of line))
  call_written call fit =
      let behind = subst (λ b. Fits (cond b (make_parts line) (call_parts line))) call fit.1.1.1 in
      let digits = decimal (value_of (number_at line 2)) in
      let tail = ap (λ l. digits ++ l) (end_at_lem line (end_at line 2) behind.0) ∙ append-nil digits in (
        number_small line 2 fit.1.1.0,
        front_at fit ∙ ap (λ l. get_or line 0 0 ∷ 32 ∷ l) tail ∙ ap (λ b. b ∷ 32 ∷ digits) (sym (letter_back (get_or line 0 0) fit.0 call)),
      )

  make_written : is_make (get_or line 0 0) ≡ true → Fits (parts line) → Small (make_of line) × (line ≡ line_of (make_of line))
  make_written make fit =
      let behind = subst (λ b. Fits (cond b (make_parts line) (call_parts line))) make fit.1.1.1 in
      let first = decimal (value_of (number_at line 2)) in
      let second = decimal (value_of (number_at line (second_at line))) in
      let end = ap (λ l. second ++ l) (end_at_lem line (end_at line (second_at line)) behind.1.1.0) ∙ append-nil second in
      let tail = space_at line (end_at line 2) behind.0 ∙ ap (λ l. 32 ∷ l) (number_at_lem line (second_at line) behind.1.0 ∙ end) in (
        (number_small line 2 fit.1.1.0, number_small line (second_at line) behind.1.0),
        front_at fit ∙ ap (λ l. get_or line 0 0 ∷ 32 ∷ (first ++ l)) tail ∙ ap (λ b. b ∷ 32 ∷ (first ++ (32 ∷ second))) (eqb-true (get_or line 0 0) 110 make),
      )

  written : (c : Command) → answer line ≡ Ok c → Small c × (line ≡ line_of c)
  unfolding answer
  written c h =
      let read = unless_ok (first_fault (parts line)) (command_of line) c (sym h) in
      let fit = fits_from (parts line) read.0 in
      let Written : Command → Type 0 = λ c. Small c × (line ≡ line_of c) in
      subst Written read.1
      (cond_both (is_make (get_or line 0 0)) (make_of line) (call_of line) Written (λ make. make_written make fit) (λ call. call_written call fit))

-- From the bytes at a place to the tests of the parts.
module _ (line rest : List ℕ) (place : ℕ) where
  space_back : drop place line ≡ 32 ∷ rest → (eqb (get_or line place 0) 32 ≡ true) × (drop (place + 1) line ≡ rest)
  space_back h = (
    eq-eqb (get_or line place 0) 32 (ap (λ i. get_or line i 0) (sym (add-zero place)) ∙ sym (get_or-drop place line 0 0) ∙ ap (λ l. get_or l 0 0) h),
    sym (drop-drop 1 place line) ∙ ap (drop 1) h,
  )

  number_back : (n : ℕ) → n ≤ 999 → run_length rest ≡ 0 → drop place line ≡ decimal n ++ rest → (well_formed (number_at line place) ≡ true) × (value_of (number_at line place) ≡ n) × (drop (end_at line place) line ≡ rest)
  number_back n small none h =
      let fits : n < 2 ^ 64 = omega arith in
      let run : run_length (drop place line) ≡ length (decimal n) = ap run_length h ∙ run_front (decimal n) rest (digits_decimal numerals n fits) none in
      let same : number_at line place ≡ decimal n = (λ i. take (run i) (h i)) ∙ take_at (decimal n) rest (length (decimal n)) refl in (
        subst (λ ds. well_formed ds ≡ true) (sym same) (decimal_formed n small),
        ap value_of same ∙ digits_value-decimal numerals n fits,
        sym (drop-drop (run_length (drop place line)) place line) ∙ (λ i. drop (run i) (h i)) ∙ drop_at (decimal n) rest (length (decimal n)) refl,
      )

end_back : (line : List ℕ) (place : ℕ) → drop place line ≡ [] → leb (length line) place ≡ true
end_back line place h = le-leb (length line) place (omega (arith, length-drop place line, ap length h))

verb_letter : (v : Verb) → (is_letter (letter_of v) ≡ true) × (is_make (letter_of v) ≡ false) × (call_verb (letter_of v) ≡ v)
verb_letter ClaimRead = (refl, refl, refl)
verb_letter ClaimWrite = (refl, refl, refl)
verb_letter Move = (refl, refl, refl)
verb_letter Leave = (refl, refl, refl)

-- The line that a command writes is accepted.
accepted : (c : Command) → Small c → answer (line_of c) ≡ Ok c
unfolding answer run_length
accepted (Call verb task) small =
    let line = line_of (Call verb task) in
    let letter = verb_letter verb in
    let number = number_back line [] 2 task small refl (sym (append-nil (decimal task))) in
    let behind : Fits (call_parts line) = (end_back line (end_at line 2) number.2, tt) in
    let fit : Fits (parts line) = (letter.0, (refl, (number.0, subst (λ b. Fits (cond b (make_parts line) (call_parts line))) (sym letter.1) behind))) in
    let command : command_of line ≡ Call verb task = ap (λ b. cond b (make_of line) (call_of line)) letter.1 ∙ (λ i. Call (letter.2 i) (number.1 i)) in
    ap (λ o. unless o (command_of line)) (none_from (parts line) fit) ∙ ap Ok command
accepted (Make tasks spin) small =
    let line = line_of (Make tasks spin) in
    let first = number_back line (32 ∷ decimal spin) 2 tasks small.0 refl refl in
    let space = space_back line (decimal spin) (end_at line 2) first.2 in
    let second = number_back line [] (second_at line) spin small.1 refl (space.1 ∙ sym (append-nil (decimal spin))) in
    let end = end_back line (end_at line (second_at line)) second.2 in
    let fit : Fits (parts line) = (refl, (refl, (first.0, (space.0, (second.0, (end, tt)))))) in
    let command : command_of line ≡ Make tasks spin = λ i. Make (first.1 i) (second.1 i) in
    ap (λ o. unless o (command_of line)) (none_from (parts line) fit) ∙ ap Ok command

-- A line's answer accepts it for just the command that writes it.
pub exact : (line : List ℕ) (r : Result Command Fault) → r ≡ answer line → Exact line r
unfolding Exact
exact line r is c = (
  λ ok. written line c (sym is ∙ ok),
  λ h. is ∙ ap answer h.1 ∙ accepted c h.0,
)

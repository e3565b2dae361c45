-- A line that was run, and what stands printed of it. Assumes nothing.
use Rattle.std.proofs.Common.{◌≡◌, ℕ, List, [], ◌∷◌, ◌++◌, length, Ok, Err, Option, Result, sym, ap, ◌∙◌, subst}
use Rattle.std.specs.List.{flat_map}
use Rattle.std.specs.Io.KnownBytes.{Appends}
use Rattle.std.proofs.lemmas.List.{append-nil, append_assoc}
use Rattle.std.proofs.KnownBytes.{Appends-trans}
use Rattle.ring.specs.Held.{places_of, Free}
use Rattle.driver.specs.declared.trouble.Trouble.{Trouble}
use Rattle.driver.specs.Lines.{Setup, ran, line_run}
use Rattle.driver.specs.Ready.{Ready}
use Rattle.transcript.specs.Answers.{words, trouble, line_reply, answers_to}
use Rattle.transcript.specs.Printed.{word_text, trouble_text, text_of}
use Rattle.transcript.specs.Steps.{Emptied, Answered}
use Rattle.transcript.proofs.Replies.{answer_of, line_agrees}

-- one word more is written
pub one_written : (w : ℕ) (ws left sofar text : List ℕ) → ws ≡ w ∷ left → text ≡ sofar ++ word_text w → text ++ flat_map word_text left ≡ sofar ++ flat_map word_text ws
one_written w ws left sofar text first wrote =
    ap (λ k. k ++ flat_map word_text left) wrote ∙ append_assoc sofar (word_text w) (flat_map word_text left) ∙ ap (λ k. sofar ++ flat_map word_text k) (sym first)

-- no word is left
pub none_written : (ws sofar : List ℕ) → ws ≡ [] → sofar ≡ sofar ++ flat_map word_text ws
none_written ws sofar none = sym (append-nil sofar) ∙ ap (λ k. sofar ++ flat_map word_text k) (sym none)

-- an accepted line, once its words are written and the rings emptied
pub accepted_line : (line : List ℕ) (b b' b'' : Setup) (r : Result (Unit {0}) Trouble) (sofar text : Option (List ℕ)) → Ready b → r ≡ Ok tt → ran r b' ≡ line_run line b → b''.lock ≡ b'.lock → Free (places_of b'.notices) b''.notices → Emptied b'.archive sofar b''.archive text → Answered line b sofar b'' text
accepted_line line b b' b'' r sofar text ready is run lock notices wrote =
    let agrees = line_agrees line b ready in
    let after = ap (λ k. k.after) run in
    let n : places_of b'.notices ≡ 64 = ap (λ k. places_of k.notices) after ∙ agrees.notices in
    let a : places_of b'.archive ≡ 66 = ap (λ k. places_of k.archive) after ∙ agrees.archive in
    let says : words b'.archive.content ≡ (line_reply line b.lock).answer = ap (λ k. answer_of k b'.archive.content) (sym is) ∙ ap (λ k. answer_of k.answer k.after.archive.content) run ∙ agrees.answer in
    record {
      printed = subst (λ k. Appends sofar text (text_of k)) says wrote.words;
      lock = lock ∙ ap (λ k. k.lock) after ∙ agrees.lock;
      ready = ((notices.0, notices.1 ∙ n), (wrote.free.0, wrote.free.1 ∙ a));
    }

-- a line that is refused, once its trouble is written
pub refused_line : (line : List ℕ) (b b' : Setup) (r : Result (Unit {0}) Trouble) (t : Trouble) (sofar text : Option (List ℕ)) → Ready b → r ≡ Err t → ran r b' ≡ line_run line b → b'.notices ≡ b.notices → b'.archive ≡ b.archive → Appends sofar text (trouble_text t) → Answered line b sofar b' text
refused_line line b b' r t sofar text ready is run notices archive wrote =
    let agrees = line_agrees line b ready in
    let says : trouble t ≡ (line_reply line b.lock).answer = ap (λ k. answer_of k b'.archive.content) (sym is) ∙ ap (λ k. answer_of k.answer k.after.archive.content) run ∙ agrees.answer in
    record {
      printed = subst (λ k. Appends sofar text (text_of k)) says wrote;
      lock = ap (λ k. k.after.lock) run ∙ agrees.lock;
      ready = (
        (ap (λ k. k.content) notices ∙ ready.0.0, ap (λ k. length k.spare) notices ∙ ready.0.1),
        (ap (λ k. k.content) archive ∙ ready.1.0, ap (λ k. length k.spare) archive ∙ ready.1.1),
      );
    }

-- one line more is answered
pub one_answered : (line : List ℕ) (lines left : List (List ℕ)) (b b' : Setup) (first sofar text : Option (List ℕ)) (done all : List ℕ) → lines ≡ line ∷ left → Answered line b sofar b' text → Appends first sofar done → done ++ flat_map text_of (answers_to lines b.lock) ≡ all → (more : List ℕ) × Appends first text more × (more ++ flat_map text_of (answers_to left b'.lock) ≡ all)
one_answered line lines left b b' first sofar text done all cut answered before whole =
    let says = text_of (line_reply line b.lock).answer in (
      done ++ says,
      Appends-trans first sofar text done says before answered.printed,
      append_assoc done says (flat_map text_of (answers_to left b'.lock))
          ∙ ap (λ l. done ++ (says ++ flat_map text_of (answers_to left l))) answered.lock
          ∙ ap (λ ls. done ++ flat_map text_of (answers_to ls b.lock)) (sym cut)
          ∙ whole,
    )

-- The words of a run's history, one event later. Assumes nothing.
use Rattle.std.proofs.Common.{◌≡◌, ℕ, ◌+◌, ◌<◌, Bool, true, false, ◌⊎◌, List, [], ◌∷◌, ◌++◌, length, drop, sym, refl, ap, ◌∙◌, inl, inr, arith}
use Rattle.std.proofs.lemmas.List.{length_push, get_or_append_left, get_or_push, drop-append-le, drop_all}
use Rattle.std.proofs.lemmas.Bool.{cases_eq}
use Rattle.rules.specs.Runs.{Event, at, nothing, LastAt, Since, how_many, gives, turns_seen}
use Rattle.rules.proofs.Tally.{bit}

module _ (es : List Event) (e : Event) where
  at_old : (i : ℕ) → i < length es → at (es ++ (e ∷ [])) i ≡ at es i
  at_old i h = get_or_append_left es (e ∷ []) nothing i h

  at_new : at (es ++ (e ∷ [])) (length es) ≡ e
  at_new = get_or_push es e nothing (length es) refl

  longer : length (es ++ (e ∷ [])) ≡ length es + 1
  longer = length_push es e

  module _ (p q : Event → Bool) where
    pub last_keep : (i : ℕ) → LastAt p q i es → q e ≡ false → LastAt p q i (es ++ (e ∷ []))
    last_keep i (h, there, none) quiet =
        let n = longer in (
          omega arith,
          ap p (at_old i h) ∙ there,
          λ k lt within.
              elim (cases_eq k (length es)) [
                | inl eq ↦ rw eq (ap q at_new ∙ quiet)
                | inr ne ↦ let old : k < length es = omega arith in ap q (at_old k old) ∙ none k lt old
              ],
        )

    pub last_begin : p e ≡ true → LastAt p q (length es) (es ++ (e ∷ []))
    last_begin now' = let n = longer in (omega arith, ap p at_new ∙ now', λ k lt within. absurd (omega arith))

    pub last_was : (i : ℕ) → LastAt p q i (es ++ (e ∷ [])) → ((i ≡ length es) × (p e ≡ true)) ⊎ (LastAt p q i es × (q e ≡ false))
    last_was i (h, there, none) =
        let n = longer in
        elim (cases_eq i (length es)) [
          | inl eq ↦ inl (eq, sym (ap p at_new) ∙ (rw eq at there))
          | inr ne ↦
              let old : i < length es = omega arith in
              inr ((old, sym (ap p (at_old i old)) ∙ there, λ k lt within. sym (ap q (at_old k within)) ∙ none k lt (omega arith)), sym (ap q at_new) ∙ none (length es) old (omega arith))
        ]

    pub since_keep : Since p q es → q e ≡ false → Since p q (es ++ (e ∷ []))
    since_keep (i, h) quiet = (i, last_keep i h quiet)

    pub since_begin : p e ≡ true → Since p q (es ++ (e ∷ []))
    since_begin now' = (length es, last_begin now')

    pub since_was : Since p q (es ++ (e ∷ [])) → (p e ≡ true) ⊎ (Since p q es × (q e ≡ false))
    since_was (i, h) = elim (last_was i h) [ inl (eq, now') ↦ inl now' | inr (old, quiet) ↦ inr ((i, old), quiet) ]

  how_many_push : (p : Event → Bool) (xs : List Event) → how_many p (xs ++ (e ∷ [])) ≡ how_many p xs + bit (p e)
  how_many_push p [] = omega arith
  how_many_push p (x ∷ xs) = let ih = how_many_push p xs in omega arith

  pub turns_more : (x i : ℕ) → i < length es → turns_seen x i (es ++ (e ∷ [])) ≡ turns_seen x i es + bit (gives x e)
  turns_more x i h =
      ap (how_many (gives x)) (drop-append-le (i + 1) es (e ∷ []) (omega arith)) ∙ how_many_push (gives x) (drop (i + 1) es)

  pub turns_none : (x : ℕ) → turns_seen x (length es) (es ++ (e ∷ [])) ≡ 0
  turns_none x = let n = longer in ap (how_many (gives x)) (drop_all (length es + 1) (es ++ (e ∷ [])) (omega arith))

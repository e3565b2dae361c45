-- What reading, pushing and taking make of the tasks in a strip. Assumes nothing.
use Rattle.std.proofs.Common.{◌≡◌, ℕ, suc, ◌+◌, ◌-◌, ◌%◌, ◌<◌, ◌≤◌, List, [], ◌∷◌, ◌++◌, length, get_or, take, drop, set, None, Some, sym, ap, ◌∙◌, arith}
use Rattle.std.specs.List.{slice_get}
use Rattle.std.proofs.lemmas.List.{length-take-le, get_or-take, set-get_or, take-append-le, take_more_set}
use Rattle.std.proofs.lemmas.Option.{slice_get-get_or, slice_get_past}
use Rattle.std.proofs.lemmas.Bool.Decides.{nat_tests}
use Rattle.strips.specs.declared.strip.Strip.{Strip}
use Rattle.ring.specs.Held.{turned, behind, next}
use Rattle.strips.specs.Tasks.{tasks_of}
use Rattle.ring.proofs.Turned.{length_turned, turned_read, turned_write, turned_first, turned_step}

-- The remainder by 64 goes around in a list of 64 places.
behind_64 : (m k n : ℕ) → m ≡ 64 → k < 64 → n ≤ 64 → behind m k n ≡ (k + n) % 64
behind_64 m k n full start count = grind (arith, nat_tests)

next_64 : (m k : ℕ) → m ≡ 64 → k < 64 → next m k ≡ (k + 1) % 64
next_64 m k full start = grind (arith, nat_tests)

-- The first n of a list are its first, and then the first n - 1 of what it is turned by one place.
take_turned : {X : Type 0} (n : ℕ) (x : X) (l : List X) → 0 < n → n ≤ length l + 1 → take n (x ∷ l) ≡ x ∷ take (n - 1) (l ++ (x ∷ []))
take_turned n x l some fits =
    let less : n - 1 ≤ length l = omega arith in
    let more : n ≡ suc (n - 1) = omega arith in
    ap (λ i. take i (x ∷ l)) more ∙ ap (λ r. x ∷ r) (sym (take-append-le (n - 1) l (x ∷ []) less))

module _ (s : Strip) where
  whole : length (turned s.tasks s.start) ≡ 64
  whole = length_turned s.tasks s.start (omega (arith, s.places, s.inside)) ∙ s.places

  pub length_tasks : length (tasks_of s) ≡ s.len
  unfolding tasks_of
  length_tasks = length-take-le s.len (turned s.tasks s.start) (omega (arith, whole, s.fits))

  content_at : (n : ℕ) → n < s.len → get_or (tasks_of s) n 0 ≡ get_or s.tasks ((s.start + n) % 64) 0
  unfolding tasks_of
  content_at n within =
      let fits = s.fits in
      let place = behind_64 (length s.tasks) s.start n s.places s.inside (omega arith) in
      get_or-take s.len (turned s.tasks s.start) n 0 within ∙ turned_read s.tasks s.start n 0 (omega (arith, s.places, s.inside)) (omega (arith, s.places)) ∙ ap (λ i. get_or s.tasks i 0) place

  pub content_get : (n : ℕ) → n < s.len → Some (get_or s.tasks ((s.start + n) % 64) 0) ≡ slice_get (tasks_of s) n
  content_get n within =
      sym (slice_get-get_or (tasks_of s) n 0 (omega (arith, length_tasks)) ∙ ap (λ t. Some t) (content_at n within))

  pub content_past : (n : ℕ) → s.len ≤ n → None ≡ slice_get (tasks_of s) n
  content_past n past = sym (slice_get_past (tasks_of s) n (omega (arith, length_tasks)))

  pushed : (x : ℕ) → s.len < 64 → take (s.len + 1) (turned (set s.tasks ((s.start + s.len) % 64) x) s.start) ≡ tasks_of s ++ (x ∷ [])
  unfolding tasks_of
  pushed x room =
      let place = behind_64 (length s.tasks) s.start s.len s.places s.inside s.fits in
      let written = ap (λ i. turned (set s.tasks i x) s.start) (sym place) ∙ turned_write s.tasks s.start s.len x (omega (arith, s.places, s.inside)) (omega (arith, s.places)) in
      ap (take (s.len + 1)) written ∙ take_more_set (turned s.tasks s.start) s.len x (omega (arith, whole))

  pub content_push : (x : ℕ) → length (tasks_of s) < 64 → take (s.len + 1) (turned (set s.tasks ((s.start + s.len) % 64) x) s.start) ≡ tasks_of s ++ (x ∷ [])
  content_push x room = pushed x (omega (arith, length_tasks))

  pub content_take : 0 < s.len → take (s.len - 1) (turned s.tasks ((s.start + 1) % 64)) ≡ drop 1 (tasks_of s)
  unfolding tasks_of
  content_take some =
      let x = get_or s.tasks s.start 0 in
      let others : List ℕ = drop (s.start + 1) s.tasks ++ take s.start s.tasks in
      let inside : s.start < length s.tasks = omega (arith, s.places, s.inside) in
      let first = turned_first s.tasks s.start 0 inside in
      let count : s.len ≤ length others + 1 = omega (arith, ap length first, whole, s.fits) in
      let place = next_64 (length s.tasks) s.start s.places s.inside in
      let stepped : turned s.tasks ((s.start + 1) % 64) ≡ others ++ (x ∷ []) = ap (turned s.tasks) (sym place) ∙ ap (λ l. turned l (next (length s.tasks) s.start)) (sym (set-get_or s.tasks s.start 0)) ∙ turned_step s.tasks s.start x inside in
      let taken : take s.len (turned s.tasks s.start) ≡ x ∷ take (s.len - 1) (turned s.tasks ((s.start + 1) % 64)) = ap (take s.len) first ∙ take_turned s.len x others some count ∙ ap (λ l. x ∷ take (s.len - 1) l) (sym stepped) in
      sym (ap (drop 1) taken)

-- The marks of the word against the numbers of tasks that write, read and owe, step by step. Assumes nothing.
use Rattle.std.proofs.Common.{◌≡◌, ℕ, ◌+◌, ◌<◌, ◌≤◌, Bool, true, false, ◌||◌, refl, subst, arith}
use Rattle.std.proofs.lemmas.Bool.Decides.{nat_tests}

pub record Core (writing reading owing : ℕ) (locked writers readers : Bool) : Type 0 where
  pub one : writing + owing ≤ 1
  pub alone : 0 < writing + owing → reading ≡ 0
  pub by : locked ≡ true → 0 < writing + owing
  pub held : 0 < writing → locked ≡ true
  pub owed : 0 < owing → (writers || readers) ≡ true
  pub owed_readers : 0 < owing → locked ≡ false → writers ≡ true
  pub behind : readers ≡ true → (locked || writers) ≡ true
  pub wake : (writers || readers) ≡ true → 0 < writing + (reading + owing)

pub core_at : {w w' r r' o o' : ℕ} {lk lk' ww ww' rw' rw'' : Bool} → w ≡ w' → r ≡ r' → o ≡ o' → lk ≡ lk' → ww ≡ ww' → rw' ≡ rw'' → Core w r o lk ww rw' → Core w' r' o' lk' ww' rw''
core_at {w} {w'} {r} {r'} {o} {o'} {lk} {lk'} {ww} {ww'} {rw'} {rw''} e f g h i j c =
    subst (λ b. Core w' r' o' lk' ww' b) j
    (subst (λ b. Core w' r' o' lk' b rw') i
    (subst (λ b. Core w' r' o' b ww rw') h
    (subst (λ n. Core w' r' n lk ww rw') g
    (subst (λ n. Core w' n o lk ww rw') f
    (subst (λ n. Core n r o lk ww rw') e c)))))

pub core_fresh : Core 0 0 0 false false false
core_fresh = record {
  one = omega arith;
  alone = λ h. refl;
  by = λ h. grind arith;
  held = λ h. absurd (omega arith);
  owed = λ h. absurd (omega arith);
  owed_readers = λ h k. absurd (omega arith);
  behind = λ h. h;
  wake = λ h. grind arith;
}

module _ {w r o : ℕ} {lk ww rw' : Bool} where
  -- a reader enters: no mark but R-waiters may be on, and then it is off too
  pub core_enter_read : Core w r o lk ww rw' → lk ≡ false → ww ≡ false → Core w (r + 1) o lk ww rw'
  core_enter_read c unlocked none =
      let a = c.one in let b = c.by in let h = c.held in let i = c.owed_readers in let j = c.behind in
      record {
        one = c.one;
        alone = λ k. grind (arith, nat_tests);
        by = c.by;
        held = c.held;
        owed = c.owed;
        owed_readers = c.owed_readers;
        behind = c.behind;
        wake = λ k. omega arith;
      }

  -- a writer enters: all marks are off, and nobody reads
  pub core_enter_write : Core w r o lk ww rw' → lk ≡ false → ww ≡ false → rw' ≡ false → r ≡ 0 → Core (w + 1) r o true ww rw'
  core_enter_write c unlocked none none' zero' =
      let a = c.one in let h = c.held in let i = c.owed in let j = c.owed_readers in
      let nobody : o ≡ 0 = grind (arith, nat_tests) in
      let nowriter : w ≡ 0 = grind (arith, nat_tests) in
      record {
        one = omega arith;
        alone = λ k. zero';
        by = λ k. omega arith;
        held = λ k. refl;
        owed = λ k. omega arith;
        owed_readers = λ k m. grind arith;
        behind = λ k. refl;
        wake = λ k. omega arith;
      }

  -- a reader joins the queue: its attempt failed, since W-locked or W-waiters is on
  pub core_mark_read : Core w r o lk ww rw' → (lk || ww) ≡ true → Core w r o lk ww true
  core_mark_read c why =
      let a = c.by in let i = c.owed_readers in let k' = c.wake in
      record {
        one = c.one;
        alone = c.alone;
        by = c.by;
        held = c.held;
        owed = λ k. grind (arith, nat_tests);
        owed_readers = c.owed_readers;
        behind = λ k. why;
        wake = λ k. grind (arith, nat_tests);
      }

  -- a writer joins the queue: its attempt failed, since a mark is on or somebody reads
  pub core_mark_write : Core w r o lk ww rw' → ((lk || (ww || rw')) ≡ false → 0 < r) → Core w r o lk true rw'
  core_mark_write c why =
      let a = c.by in let k' = c.wake in
      record {
        one = c.one;
        alone = c.alone;
        by = c.by;
        held = c.held;
        owed = λ k. refl;
        owed_readers = λ k m. refl;
        behind = λ k. grind (arith, nat_tests);
        wake = λ k. grind (arith, nat_tests);
      }

  -- a reader leaves, and is out
  pub core_leave_read : Core w (r + 1) o lk ww rw' → (r ≡ 0 → (ww || rw') ≡ false) → Core w r o lk ww rw'
  core_leave_read c why =
      let a = c.one in let b = c.alone in
      record {
        one = c.one;
        alone = λ k. absurd (let z = b k in omega arith);
        by = c.by;
        held = c.held;
        owed = c.owed;
        owed_readers = c.owed_readers;
        behind = c.behind;
        wake = λ k. grind (arith, nat_tests);
      }

  -- the last reader leaves, and owes
  pub core_owe_read : Core w (r + 1) o lk ww rw' → r ≡ 0 → (ww || rw') ≡ true → Core w r (o + 1) lk ww rw'
  core_owe_read c zero' some =
      let a = c.one in let b = c.alone in let by' = c.by in let j = c.behind in
      let nobody : w + o ≡ 0 = grind (arith, nat_tests) in
      let unlocked : lk ≡ false = grind (arith, nat_tests) in
      record {
        one = omega arith;
        alone = λ k. zero';
        by = λ k. omega arith;
        held = c.held;
        owed = λ k. some;
        owed_readers = λ k m. grind (arith, nat_tests);
        behind = c.behind;
        wake = λ k. omega arith;
      }

  -- a writer leaves, and is out
  pub core_leave_write : Core (w + 1) r o lk ww rw' → ww ≡ false → rw' ≡ false → Core w r o false ww rw'
  core_leave_write c none none' =
      let a = c.one in
      record {
        one = omega arith;
        alone = λ k. absurd (omega arith);
        by = λ k. grind arith;
        held = λ k. absurd (omega arith);
        owed = λ k. absurd (omega arith);
        owed_readers = λ k m. absurd (omega arith);
        behind = λ k. grind (arith, nat_tests);
        wake = λ k. grind (arith, nat_tests);
      }

  -- a writer leaves, and owes
  pub core_owe_write : Core (w + 1) r o lk ww rw' → (ww || rw') ≡ true → Core w r (o + 1) lk ww rw'
  core_owe_write c some =
      let a = c.one in let h = c.held in let b = c.alone in let on : lk ≡ true = h (omega arith) in
      record {
        one = omega arith;
        alone = λ k. b (omega arith);
        by = λ k. omega arith;
        held = λ k. on;
        owed = λ k. some;
        owed_readers = λ k m. grind (arith, nat_tests);
        behind = λ k. grind (arith, nat_tests);
        wake = λ k. omega arith;
      }

  -- the lock is passed to a writer
  pub core_pass_write : (ww'' rw'' : Bool) → Core w r (o + 1) lk ww rw' → Core (w + 1) r o true ww'' rw''
  core_pass_write ww'' rw'' c =
      let a = c.one in let b = c.alone in
      record {
        one = omega arith;
        alone = λ k. b (omega arith);
        by = λ k. omega arith;
        held = λ k. refl;
        owed = λ k. absurd (omega arith);
        owed_readers = λ k m. absurd (omega arith);
        behind = λ k. refl;
        wake = λ k. omega arith;
      }

  -- the lock is passed to n readers
  pub core_pass_read : (n : ℕ) (ww'' : Bool) → Core w r (o + 1) lk ww rw' → 0 < n → Core w (r + n) o false ww'' false
  core_pass_read n ww'' c some =
      let a = c.one in
      record {
        one = omega arith;
        alone = λ k. absurd (omega arith);
        by = λ k. grind arith;
        held = λ k. absurd (omega arith);
        owed = λ k. absurd (omega arith);
        owed_readers = λ k m. absurd (omega arith);
        behind = λ k. grind arith;
        wake = λ k. omega arith;
      }

-- A group has at most as many tasks as there are. Assumes nothing.
use Rattle.std.proofs.Common.{ℕ, zero, suc, ◌%◌, ◌≤◌, cond, eqb, arith}
use Rattle.std.proofs.lemmas.Bool.{cond_both}
use Rattle.word.specs.Words.{tasks_below}

pub tasks_below_le : (groups g n : ℕ) → tasks_below groups g n ≤ n
unfolding tasks_below
tasks_below_le groups g zero = omega arith
tasks_below_le groups g (suc n) =
    let ih = tasks_below_le groups g n in
    let one : cond (eqb (n % groups) g) 1 0 ≤ 1 = cond_both (eqb (n % groups) g) 1 0 (λ k. k ≤ 1) (λ e. omega arith) (λ e. omega arith) in
    omega arith

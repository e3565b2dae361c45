use Rattle.std.proofs.Common.{◌≡◌, suc, ◌-◌, ◌<◌, sym, refl, ap, ◌∙◌, arith}
use Rattle.queue.specs.Queues.{tasks_in_range, entry_at}
use Rattle.queue.proofs.Sizes.{none_past}
use Rattle.chain.specs.Walks.{held, walk, last_task}
use Rattle.chain.proofs.Walks.{walk_length, walk_first, walk_last, last_small, head_small, rest_small, step_at}
use Rattle.chain.proofs.ChainWaitQueue.entry_at.Goals as goal
use Rattle.chain.proofs.ChainWaitQueue.entry_at.Goals.{then-place-self-2, else-place-self-2}

pub returns-then-place-self : goal.returns-then-place-self
returns-then-place-self c =
    let links = c.args.self.now.links in
    let size = walk_length links.places links.len links.head in
    sym (none_past c.args.place (held links) (omega arith))

pub loop-left-init : goal.loop-left-init
loop-left-init c =
    let q = c.args.self.now in
    let links = q.links in
    let place = c.args.place in
    elim c.if-place-self-2.branch [
      | then-place-self-2 w ↦
          let size : links.len ≡ suc place = omega (arith, w.if-place-self-2.true) in
          let one : links.len - (place - 0) ≡ 1 = omega arith in
          let whole : held links ≡ walk links.places (suc place) links.head = ap (λ n. walk links.places n links.head) size in
          let last : links.tail ≡ last_task (walk links.places (suc place) links.head) = q.agrees.2 ∙ ap last_task whole in
          let inside = last_small links.places place links.head (sym (ap tasks_in_range whole) ∙ q.laws.0) in
          let found = walk_last links.places place links.head ∙ sym (ap (entry_at place) whole) in
          simp (w.left-is, w.task-is, one, last) (omega arith, inside, found)
      | else-place-self-2 w ↦
          let none : links.len - (place - place) ≡ links.len = omega arith in
          simp (w.left-is, w.task-is, none) (omega arith, q.laws.0, refl)
    ]

pub bounds-self-task : goal.bounds-self-task
bounds-self-task c =
    let links = c.args.self.now.links in
    let ahead = links.len - (c.args.place - c.loop-left.left) in
    head_small links.places ahead c.loop-left.task (omega arith) c.loop-left.invariant.1

pub loop-left-preserved : goal.loop-left-preserved
loop-left-preserved c =
    let links = c.args.self.now.links in
    let left = c.loop-left.left in
    let ahead = links.len - (c.args.place - left) in
    let some : 0 < ahead = omega arith in
    let more : 0 < left = omega arith in
    let fewer : links.len - (c.args.place - (left - 1)) ≡ ahead - 1 = omega arith in
    let small = rest_small links.places ahead c.loop-left.task some c.loop-left.invariant.1 in
    let step = step_at links.places ahead c.loop-left.task left some more in
    (omega arith, rw fewer small, rw fewer (sym step ∙ c.loop-left.invariant.2))

pub bounds-self-task-2 : goal.bounds-self-task-2
bounds-self-task-2 c =
    let links = c.args.self.now.links in
    let ahead = links.len - (c.args.place - c.loop-left.left) in
    head_small links.places ahead c.loop-left.task (omega arith) c.loop-left.invariant.1

pub returns : goal.returns
returns c =
    let links = c.args.self.now.links in
    let ahead = links.len - (c.args.place - c.loop-left.left) in
    let here = walk_first links.places ahead c.loop-left.task (omega arith) in
    let none : c.loop-left.left ≡ 0 = omega arith in
    let now-first = ap (λ k. entry_at k (walk links.places ahead c.loop-left.task)) none in
    sym (now-first ∙ ap (entry_at 0) here) ∙ c.loop-left.invariant.2

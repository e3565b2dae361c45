use Rattle.std.proofs.Common.{◌≡◌, drop}
use Rattle.queue.specs.Queues.{entry_at}
use Rattle.strips.specs.Entries.{entries_of}
use Rattle.strips.proofs.Lined.{sections}
use Rattle.strips.proofs.parts.Parts.entry_at.Given as goal

abbrev pub invariant-loop-strip : goal.invariant-loop-strip
invariant-loop-strip l = entry_at l.place (sections (drop l.strip-index l.strip-items)) ≡ entry_at l.fn.place (entries_of l.self)

use lib.Bits.{and_mask}
use Rattle.packed.proofs.Packed.readers.Goals as goal

pub returns : goal.returns
returns c = and_mask c.args.self.now.bits 29

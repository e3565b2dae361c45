-- The setup that a lock and its rings mean. Assumes nothing.
use Rattle.std.specs.Prelude.{ℕ, List}
use Rattle.types.specs.declared.Entry.{Entry}
use Rattle.word.specs.Words.{Word}
use Rattle.packed.specs.declared.Packed.{Packed}
use Rattle.packed.specs.Unpacked.{unpacked}
use Rattle.chain.specs.declared.Chain.{Chain}
use Rattle.chain.specs.Walks.{held}
use Rattle.ring.specs.declared.Ring.{Ring}
use Rattle.ring.specs.HeldOf.{held_of}
use Rattle.lock.specs.declared.Lock.{Lock}
use Rattle.lock.specs.Meaning.{lock_of}
use Rattle.driver.specs.declared.setup.Setup as declared
use Rattle.driver.specs.Lines.{Setup, setup}

-- The meaning of a lock, of a ring of notices and of an archive.
abbrev pub parts_setup : {W Q : Type 0} → (W → Word) → (Q → List Entry) → Lock W Q → Ring Entry → Ring ℕ → Setup
parts_setup word entries l n a = setup (lock_of word entries l.state) (held_of n) (held_of a)

-- The meaning of the lock, of the notices and of the archive.
abbrev pub setup_of : {W Q : Type 0} → (W → Word) → (Q → List Entry) → declared.Setup W Q → Setup
setup_of word entries s = parts_setup word entries s.lock s.notices s.archive

-- The meaning of a lock above the packed word and the chain, of a ring of notices and of an archive.
abbrev pub packed_parts : Lock Packed Chain → Ring Entry → Ring ℕ → Setup
packed_parts l n a = parts_setup (λ w. unpacked w.bits) (λ q. held q.links) l n a

-- The meaning of a setup whose lock is above the packed word and the chain.
abbrev pub packed_setup : declared.Setup Packed Chain → Setup
packed_setup s = setup_of (λ w. unpacked w.bits) (λ q. held q.links) s

-- What the private steps of the transcript leave. Assumes nothing.
use Rattle.std.specs.Prelude.{◌≡◌, ℕ, List, Option}
use Rattle.std.specs.List.{flat_map}
use Rattle.std.specs.Io.KnownBytes.{Appends}
use Rattle.ring.specs.Held.{Held, places_of, Free}
use Rattle.driver.specs.Lines.{Setup}
use Rattle.driver.specs.Ready.{Ready}
use Rattle.transcript.specs.Answers.{line_reply}
use Rattle.transcript.specs.Printed.{word_text, text_of}

-- The words of a ring stand behind what the writer held, where that is known, and the ring is empty.
pub record Emptied (before : Held ℕ) (sofar : Option (List ℕ)) (after : Held ℕ) (text : Option (List ℕ)) : Type 0 where
  pub words : Appends sofar text (flat_map word_text before.content)
  pub free : Free (places_of before) after

-- A line was answered: its text stands behind what the writer held, where that is known, the lock is the reply's, and the rings are ready
-- for the next line.
pub record Answered (line : List ℕ) (before : Setup) (sofar : Option (List ℕ)) (after : Setup) (text : Option (List ℕ)) : Type 0 where
  pub printed : Appends sofar text (text_of (line_reply line before.lock).answer)
  pub lock : after.lock ≡ (line_reply line before.lock).lock
  pub ready : Ready after

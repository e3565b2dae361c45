use Rattle.std.proofs.Common.{refl}
use Rattle.facts.proofs.ten_facts.Goals as goal

pub returns : goal.returns
returns c = record {
  no_task = refl;
  most_tasks = refl;
  too_many_tasks = refl;
  too_much_spin = refl;
  both_wait = refl;
  writer_has = refl;
  reader_next = (refl, refl);
  reader_out = (refl, refl);
  queued_claim = refl;
  no_notice_place = refl;
}

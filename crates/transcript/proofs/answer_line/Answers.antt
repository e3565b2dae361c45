use Rattle.std.proofs.Common.{refl, ap}
use Rattle.std.proofs.lemmas.Result.{IfOk-weaker}
use Rattle.ring.specs.HeldOf.{held_of}
use Rattle.driver.specs.Meaning.{packed_setup}
use Rattle.transcript.specs.Steps.{Emptied, Answered}
use Rattle.transcript.proofs.Answering.{accepted_line, refused_line}
use Rattle.transcript.proofs.answer_line.Goals as goal

pub returns-in-Ok : goal.returns-in-Ok
returns-in-Ok g c =
    let b = packed_setup c.args.setup.now in
    let b' = packed_setup c.run_line.new.self in
    let b'' = packed_setup (record { lock = c.run_line.new.self.lock; notices = c.clear.new.self; archive = c.write_words.new.archive }) in
    let sofar = g.W.Write.contents c.args.out.now in
    let text = g.W.Write.contents c.write_words.new.out in
    let line = c.args.line.now in
    record {
      answered = IfOk-weaker c.write_words.result (λ _. Emptied b'.archive sofar b''.archive text) (λ _. Answered line b sofar b'' text) (λ _ wrote. accepted_line line b b' b'' c.run_line.result sofar text c.requires.ready c.in-Ok.is c.run_line.ensures.ran refl c.clear.ensures.free wrote) c.write_words.ensures;
    }

pub returns-in-Err : goal.returns-in-Err
returns-in-Err g c =
    let b = packed_setup c.args.setup.now in
    let b' = packed_setup c.run_line.new.self in
    let same = c.run_line.ensures.same c.in-Err.trouble c.in-Err.is in
    let sofar = g.W.Write.contents c.args.out.now in
    let text = g.W.Write.contents c.write_trouble.new.out in
    record {
      answered = IfOk-weaker _ _ _ (λ _ wrote. refused_line c.args.line.now b b' c.run_line.result c.in-Err.trouble sofar text c.requires.ready c.in-Err.is c.run_line.ensures.ran (ap (λ k. held_of k.notices) same) (ap (λ k. held_of k.archive) same) wrote) c.write_trouble.ensures;
    }

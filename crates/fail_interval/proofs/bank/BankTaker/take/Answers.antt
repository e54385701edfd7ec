use Rattle.std.proofs.Common.{◌+◌, ◌^◌, ◌∷◌, [], arith}
use Rattle.std.specs.Prelude.{IfOk, Result, Ok, Err}
use Rattle.timing_base.specs.Captures.{Record}
use Rattle.flow_demux.specs.Rooms.{flows_of}
use Rattle.fail_interval.proofs.Banks.{each-few, judges-fed, most-few}
use Rattle.fail_interval.proofs.bank.BankTaker.take.Goals as goal

-- what follows from an answer
if-ok : {T E : Type 0} {P Q : T → Type 0} (result : Result T E) → ((x : T) → P x → Q x) → IfOk result P → IfOk result Q
if-ok (Ok x) next h = next x h
if-ok (Err e) next h = tt

pub take-requires-clause-room : goal.take-requires-clause-room
take-requires-clause-room c = record {
  ready = c.args.self.now.ready;
  each = each-few (flows_of c.args.self.now.demux) 1 (2 ^ 41) c.requires.room;
}

pub returns-clause-room : goal.returns-clause-room
returns-clause-room c = λ count.
    if-ok c.take.result
    (λ _ leaves has. most-few (flows_of c.take.new.self) count (2 ^ 41) (omega (arith, has))
    (leaves record { ready = c.args.self.now.ready; each = each-few (flows_of c.args.self.now.demux) (count + 1) (2 ^ 41) has }).each)
    (c.take.ensures.room count)

pub returns-clause-takes : goal.returns-clause-takes
returns-clause-takes c =
    let r : Record = record { number = c.args.number; stamp = c.args.at; bytes = c.args.frame.now } in
    if-ok c.take.result
    (λ _ takes media file options items h. judges-fed options file 0 media (flows_of c.args.self.now.demux) (flows_of c.take.new.self) items (r ∷ []) takes h)
    c.take.ensures.takes

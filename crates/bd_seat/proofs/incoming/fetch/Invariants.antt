use Rattle.std.proofs.Common.{◌≡◌, vec_len}
use Rattle.bd_seat.specs.Incoming.{Fetched}
use Rattle.bd_seat.proofs.incoming.fetch.Given as goal

abbrev pub invariant-loop : goal.invariant-loop
invariant-loop g l = record {
  fetched : Fetched l.me l.initial.pass l.initial.log l.initial.queues.items l.pass l.log l.queues.items;
  ring : l.pass.ring ≡ l.ring.ring;
  none : l.pass.missed ≡ l.initial.pass.missed;
  len : vec_len l.queues ≡ vec_len l.initial.queues;
}

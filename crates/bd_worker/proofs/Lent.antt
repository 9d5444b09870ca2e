-- What a worker that is lent the registry needs of it to catch up: by rows the two are the same, and the worker's replica is what the first rows of the journal leave.
use Rattle.std.proofs.Common.{◌≡◌, ℕ, ◌+◌, ◌≤◌, List, length, take, sym, ◌∙◌, ap, length-append, arith}
use Rattle.std.proofs.Math.Seq.{take-append_seam}
use Rattle.bd_base.specs.declared.act.Entry.{Entry}
use Rattle.bd_base.specs.declared.setup.Setup.{Setup}
use Rattle.bd_machine.specs.Start.{registry_at_start}
use Rattle.bd_law_logs.specs.Journals.{registry_by}
use Rattle.bd_registry.specs.State.{Registered, start_of}
use Rattle.bd_registry.proofs.Alike.{leaves_alike}
use Rattle.bd_worker.specs.declared.worker.Worker.{Worker}
use Rattle.bd_worker.specs.Seats.{IsLentTo}

module _ (w : Worker) (seen : ℕ) (lent : Registered) (h : IsLentTo w seen lent) where
  -- both begin alike
  pub begins_alike : start_of w.links.registry.setup ≡ start_of lent.setup
  begins_alike = ap start_of h.at.rows ∙ sym h.lent_is.start

  -- the journal is no shorter than what was seen of it
  pub seen_within : seen ≤ length lent.journal
  seen_within =
      let e : length lent.journal ≡ length h.c.seen + length h.lent_is.begins.0 = ap (λ (es : List Entry). length es) h.lent_is.begins.1 ∙ length-append h.c.seen h.lent_is.begins.0 in
      let n : seen ≡ length h.c.seen = h.lent_is.count in
      omega arith

  -- what was seen are its first rows
  seen_first : take seen lent.journal ≡ h.c.seen
  seen_first =
      ap (λ (n : ℕ). take n lent.journal) h.lent_is.count
      ∙ ap (λ (es : List Entry). take (length h.c.seen) es) h.lent_is.begins.1
      ∙ take-append_seam h.c.seen h.lent_is.begins.0

  -- which leave the replica
  pub replica_left : w.links.registry.state ≡ registry_by w.links.registry.setup (registry_at_start w.links.registry.setup) (take seen lent.journal)
  replica_left =
      let own : Setup = w.links.registry.setup in
      h.at.replica
      ∙ leaves_alike own h.setup (ap start_of h.at.rows) h.c.seen
      ∙ ap (λ (es : List Entry). registry_by own (registry_at_start own) es) (sym seen_first)

-- What asks the registry for nothing.
use Rattle.std.proofs.Common.{◌≡◌, ℕ, ◌+◌, Bool, true, false, cond, ◌==◌, List, [], ◌∷◌, ◌++◌, length, find, Option, Some, None, refl, sym, ◌∙◌, ap, append_assoc, append-nil}
use Rattle.std.proofs.lemmas.List.{append_cancel_left}
use Rattle.std.proofs.lemmas.List.Elements.{filter-append}
use Rattle.bd_base.specs.declared.act.Act.{Act}
use Rattle.bd_base.specs.declared.setup.Setup.{Setup}
use Rattle.bd_base.specs.declared.act.Act.TheVariants as acts
use Rattle.bd_base.specs.declared.act.ApplyEnd.TheVariants as ends
use Rattle.bd_base.specs.declared.act.Entry.{Entry}
use Rattle.bd_base.specs.declared.act.Outcome.{Outcome}
use Rattle.bd_base.specs.declared.act.Token.{Token}
use Rattle.bd_base.specs.declared.id.DevId.{DevId}
use Rattle.bd_base.specs.declared.id.HandleId.{HandleId}
use Rattle.bd_base.specs.declared.id.ReqId.{ReqId}
use Rattle.bd_base.specs.declared.id.WalkId.{WalkId}
use Rattle.bd_base.specs.declared.request.AbortCause.{AbortCause}
use Rattle.bd_base.specs.declared.request.AbortCause.TheVariants.{Frozen, Removed}
use Rattle.bd_base.specs.declared.request.Errno.{Errno}
use Rattle.bd_base.specs.declared.request.WalkKind.{WalkKind}
use Rattle.bd_base.specs.declared.request.WalkKind.TheVariants as kinds
use Rattle.bd_blocks.specs.Digests.{digest_due}
use Rattle.bd_machine.specs.declared.state.Id.{Id}
use Rattle.bd_machine.specs.declared.state.Id.TheVariants as ids
use Rattle.bd_machine.specs.declared.state.OpenPiece.{OpenPiece}
use Rattle.bd_machine.specs.declared.state.OpenRequest.{OpenRequest}
use Rattle.bd_machine.specs.declared.state.OpenWalk.{OpenWalk}
use Rattle.bd_machine.specs.declared.state.Progress.{Progress}
use Rattle.bd_machine.specs.declared.state.Progress.TheVariants.{Held, Out, Served}
use Rattle.bd_machine.specs.BlockMap.{is_malloc}
use Rattle.bd_machine.specs.Grace.{may_grace}
use Rattle.bd_machine.specs.Homes.{is_base}
use Rattle.bd_machine.specs.Kept.{as_piece, request_here}
use Rattle.bd_tokens.specs.Tokens.{here_in}
use Rattle.bd_machine.specs.Messages.{count_at}
use Rattle.bd_law_logs.specs.Journals.{events, is_event}
use Rattle.bd_turns.specs.declared.queue.Message.{Message}
use Rattle.bd_rule_view.specs.declared.names.Submission.{Submission}
use Rattle.bd_steps.specs.declared.completion.Ending.{Ending}
use Rattle.bd_steps.specs.Completions.{ending_of}
use Rattle.bd_steps.specs.Sending.{first_brought}
use Rattle.bd_links.specs.Entries.{entry_at, longer}
use Rattle.bd_links.specs.Queues.{queues_of}
use Rattle.bd_thread.specs.declared.links.Links.{Links}
use Rattle.bd_thread.specs.declared.thread.Thread.{Thread}
use Rattle.bd_steps.specs.Stopping.{stoppable}
use Rattle.bd_thread.specs.Aborts.{abort_due, Stops, StopsBy, StopsEach}
use Rattle.bd_thread.specs.Acted.{ActedBy}
use Rattle.bd_thread.specs.Completions.{CompletesBy, MayComplete}
use Rattle.bd_thread.specs.Cuts.{may_cut_now, Cuts, CutsBy}
use Rattle.bd_thread.specs.Destructs.{may_device_go, DestructAdded, Destructs}
use Rattle.bd_thread.specs.Lines.{outcome_now, EndsBy, EndsLine}
use Rattle.bd_thread.specs.Delays.{hold_due, HoldsOrCompletes, HoldsOrCompletesBy}
use Rattle.bd_thread.specs.Grace.{grace_until, next_due, Graces, GracesBy, Hardens, HardensBy}
use Rattle.bd_thread.specs.Moves.{Comes, ComesAs, ComesOwn, ComesPiece}
use Rattle.bd_thread.specs.Refusals.{refusal_now, SendsBack, SendsBackBy}
use Rattle.bd_thread.specs.Requests.{accept_act, refuse_act, IsAccepted, IsRefused}
use Rattle.bd_thread.specs.Seen.{view_of}
use Rattle.bd_thread.specs.Sent.{may_put, KeepsRequests, Puts, PutsBy, Takes, TakesBy}
use Rattle.bd_thread.specs.Served.{Applies, ApplyAdded}
use Rattle.bd_thread.specs.Walking.{visit_due, StopsFor, Visits, VisitsBy}
use Rattle.bd_thread.specs.Work.{ActedAloneBy, AsksNothing}

-- ---- none, one, and one after the other

pub alone_same : (a c : Links) → c ≡ a → AsksNothing a c
alone_same a c same = record {
  registry = ap (λ (l : Links). l.registry) same;
  entries = [];
  added = ap (λ (l : Links). l.entries) same ∙ sym (append-nil a.entries);
  none_asks = refl;
}

pub alone_none : (a : Links) → AsksNothing a a
alone_none a = alone_same a a refl

pub alone_then : (a b c : Links) → AsksNothing a b → AsksNothing b c → AsksNothing a c
alone_then a b c g h = record {
  registry = h.registry ∙ g.registry;
  entries = g.entries ++ h.entries;
  added = h.added ∙ ap (λ (es : List Entry). es ++ h.entries) g.added ∙ append_assoc a.entries g.entries h.entries;
  none_asks = filter-append is_event g.entries h.entries ∙ ap (λ (es : List Entry). es ++ events h.entries) g.none_asks ∙ h.none_asks;
}

-- an act that asks the registry for nothing and is no Shutdown
alone_one : (me : ℕ) (a c : Links) (act : Act) → is_event (entry_at me (length a.entries + 1) act) ≡ false → c.registry ≡ a.registry → c.entries ≡ longer me a.entries act → AsksNothing a c
alone_one me a c act still registry added =
    let e : Entry = entry_at me (length a.entries + 1) act in
    record {
      registry = registry;
      entries = e ∷ [];
      added = added;
      none_asks = ap (λ b. cond b (e ∷ []) []) still;
    }

pub alone_by : (me : ℕ) (a c : Links) (act : Act) → is_event (entry_at me (length a.entries + 1) act) ≡ false → c ≡ record a { entries = longer me a.entries act } → AsksNothing a c
alone_by me a c act still is = alone_one me a c act still (ap (λ (l : Links). l.registry) is) (ap (λ (l : Links). l.entries) is)

-- how a thread went on, and that it asked for nothing
pub acted_alone : {may : Setup → Act → Bool} (o : Thread) (a : Links) (n : Thread) (c : Links) → ActedBy may o a n c → AsksNothing a c → ActedAloneBy may o a n c
acted_alone o a n c g h = record {
  acted = g;
  registry = h.registry;
  none_asks = ap events (append_cancel_left a.entries g.entries h.entries (sym g.added ∙ h.added)) ∙ h.none_asks;
}

-- ---- the exact clauses of the steps

keeps_registry : (o : Thread) (a : Links) (n : Thread) (c : Links) → KeepsRequests o a n c → c.registry ≡ a.registry
keeps_registry o a n c keeps = ap (λ (l : Links). l.registry) keeps.links

pub takes_alone : (o : Thread) (a : Links) (n : Thread) (c : Links) (id : Option Id) → Takes o a n c id → AsksNothing a c
takes_alone o a n c id h = go (first_brought (queues_of a.queues.items o.me)) h
  where
    go : (m : Option Message) → TakesBy o a n c id m → AsksNothing a c
    go None k = alone_same a c k.2
    go (Some m) k = alone_one o.me a c (acts.Took m.sender (count_at o.part.taken m.sender) m.what) refl (ap (λ (l : Links). l.registry) k.1.links) (ap (λ (l : Links). l.entries) k.1.links)

pub puts_alone : (o : Thread) (a : Links) (n : Thread) (c : Links) (to : ℕ) (what : Token) (put : Bool) → KeepsRequests o a n c → Puts o a n c to what put → AsksNothing a c
puts_alone o a n c to what put keeps h = go (may_put o a to what) h
  where
    go : (may : Bool) → PutsBy o a n c to what put may → AsksNothing a c
    go false k = alone_same a c k.2
    go true k = alone_one o.me a c (acts.Put to (count_at o.part.put to) what) refl (keeps_registry o a n c keeps) k.1

pub applies_alone : (o : Thread) (a : Links) (n : Thread) (c : Links) (dev : DevId) (id : Option Id) → KeepsRequests o a n c → Applies o a n c dev id → AsksNothing a c
applies_alone o a n c dev id keeps h = go id h.1
  where
    go : (i : Option Id) → ApplyAdded o a n c dev i → AsksNothing a c
    go None k = alone_same a c k.1
    go (Some (ids.Piece req k)) added = alone_one o.me a c (acts.Apply req k dev ends.Done) refl (keeps_registry o a n c keeps) added
    go (Some (ids.Request req)) k = absurd k
    go (Some (ids.Walk walk)) k = absurd k
    go (Some (ids.Notice sender receiver number)) k = absurd k

pub destructs_alone : (o : Thread) (a : Links) (n : Thread) (c : Links) (dev : DevId) (done : Bool) → KeepsRequests o a n c → Destructs o a n c dev done → AsksNothing a c
destructs_alone o a n c dev done keeps h = go (may_device_go o a dev) (digest_due (is_malloc o.setup.now dev) (find (is_base dev) o.part.bases)) h
  where
    go : (may : Bool) (shown : Option (Option (List ℕ))) → DestructAdded o a n c dev done may shown → AsksNothing a c
    go true (Some digest) k = alone_one o.me a c (acts.Destruct dev digest) refl (keeps_registry o a n c keeps) k.1
    go true None k = alone_same a c k.1.1
    go false (Some digest) k = alone_same a c k.1.1
    go false None k = alone_same a c k.1.1

pub completes_alone : (req : ReqId) (o : Thread) (a : Links) (n : Thread) (c : Links) → MayComplete req o a n c → AsksNothing a c
completes_alone req o a n c h = go (ending_of o.setup.now o.me (view_of o a) req) h.completes
  where
    go : (e : Option Ending) → CompletesBy req o a n c h.done e → AsksNothing a c
    go None k = alone_same a c k.2
    go (Some e) k = alone_by o.me a c (acts.Complete req e.status k.1.shown) refl k.1.links

pub stops_alone : (req : ReqId) (cause : AbortCause) (o : Thread) (a : Links) (n : Thread) (c : Links) → Stops req cause o a n c → AsksNothing a c
stops_alone req cause o a n c h = go (abort_due o a req cause) h
  where
    go : (r : Option OpenRequest) → StopsBy req cause o a n c r → AsksNothing a c
    go None k = alone_same a c k.1
    go (Some r) k = alone_then a k.shared c (alone_by o.me a k.shared (acts.Abort req cause) refl k.first.links) (completes_alone req k.middle k.shared n c k.second)

each_alone : (reqs : List ReqId) (cause : AbortCause) (o : Thread) (a : Links) (n : Thread) (c : Links) → StopsEach reqs cause o a n c → AsksNothing a c
each_alone [] cause o a n c h = alone_same a c h.1
each_alone (x ∷ xs) cause o a n c h = alone_then a h.shared c (stops_alone x cause o a h.middle h.shared h.first) (each_alone xs cause h.middle h.shared n c h.second)

graces_alone : (walk : WalkId) (time : ℕ) (o : Thread) (a : Links) (n : Thread) (c : Links) → Graces walk time o a n c → AsksNothing a c
graces_alone walk time o a n c h = go (may_grace o.part walk (grace_until o time)) h
  where
    go : (b : Bool) → GracesBy walk (grace_until o time) o a n c b → AsksNothing a c
    go false k = alone_same a c k.1
    go true k = alone_by o.me a c (acts.Grace walk (grace_until o time)) refl k.links

-- a mark became hard, and then what waits for its device was stopped
pub hardens_alone : (o : Thread) (a : Links) (n : Thread) (c : Links) (done : Bool) → Hardens o a n c done → AsksNothing a c
hardens_alone o a n c done h = go (next_due o.part o.time.moment) h
  where
    go : (due : Option (DevId × WalkId)) → HardensBy due o a n c done → AsksNothing a c
    go None k = alone_same a c k.2
    go (Some due) k =
        alone_then a k.1.shared c (alone_by o.me a k.1.shared (acts.Due due.1 o.time.moment) refl k.1.first.links)
        (each_alone (stoppable k.1.middle.setup.now due.0 k.1.middle.part) (Frozen due.0) k.1.middle k.1.shared n c k.1.second)

for_alone : (kind : WalkKind) (dev : DevId) (o : Thread) (a : Links) (n : Thread) (c : Links) → StopsFor kind dev o a n c → AsksNothing a c
for_alone kinds.Removal dev o a n c h = each_alone (stoppable o.setup.now dev o.part) (Removed dev) o a n c h
for_alone kinds.Freeze dev o a n c h = each_alone (stoppable o.setup.now dev o.part) (Frozen dev) o a n c h
for_alone kinds.Drain dev o a n c h = alone_same a c h.1
for_alone kinds.Thaw dev o a n c h = alone_same a c h.1

pub visits_alone : (walk : WalkId) (o : Thread) (a : Links) (n : Thread) (c : Links) (made : Bool) → Visits walk o a n c made → AsksNothing a c
visits_alone walk o a n c made h = go (visit_due o a walk) h
  where
    go : (w : Option OpenWalk) → VisitsBy walk o a n c made w → AsksNothing a c
    go None k = alone_same a c k.2
    go (Some w) k =
        let then = k.1.second in
        alone_then a k.1.shared c (alone_by o.me a k.1.shared (acts.Visit walk w.dev w.kind) refl k.1.first.links)
        (alone_then k.1.shared then.shared c (graces_alone walk w.time k.1.middle k.1.shared then.middle then.shared then.first) (for_alone w.kind w.dev then.middle then.shared n c then.second))

pub sends_back_alone : (dev : DevId) (o : Thread) (a : Links) (n : Thread) (c : Links) (done : Bool) → SendsBack dev o a n c done → AsksNothing a c
sends_back_alone dev o a n c done h = go (refusal_now dev o a) h
  where
    go : (q : Option (ReqId × ℕ)) → SendsBackBy dev o a n c done q → AsksNothing a c
    go None k = alone_same a c k.2
    go (Some q) k = alone_by o.me a c (acts.NoMem q.0 q.1 dev) refl k.1.links

pub carried_alone : (req : ReqId) (o : Thread) (a : Links) (n : Thread) (c : Links) → HoldsOrCompletes req o a n c → AsksNothing a c
carried_alone req o a n c h = go (hold_due o a req) h
  where
    go : (due : Option (OpenRequest × ℕ)) → HoldsOrCompletesBy req o a n c due → AsksNothing a c
    go None k = completes_alone req o a n c k
    go (Some due) k = alone_by o.me a c (acts.Hold req due.1) refl k.links

-- what a piece that came brings about
came_alone : (req : ReqId) (k : ℕ) (o : Thread) (a : Links) (n : Thread) (c : Links) (p : Option OpenPiece) → ComesPiece p req k o a n c → AsksNothing a c
came_alone req k o a n c None h = alone_same a c h.1
came_alone req k o a n c (Some p) h = by_progress p.progress h
  where
    own : (b : Bool) → ComesOwn b req k o a n c → AsksNothing a c
    own true h = carried_alone req h.middle a n c h.carried
    own false h = alone_same a c h.1

    by_progress : (progress : Progress) → ComesAs progress p.base req k o a n c → AsksNothing a c
    by_progress Out h = sends_back_alone p.base o a n c h.done h.sends
    by_progress Held h = own (req.thread == o.me) h
    by_progress Served h = own (req.thread == o.me) h

-- what a token brings about
pub comes_alone : (id : Id) (o : Thread) (a : Links) (n : Thread) (c : Links) → Comes id o a n c → AsksNothing a c
comes_alone (ids.Piece req k) o a n c h = came_alone req k o a n c (as_piece (here_in o.held.items (ids.Piece req k))) h
comes_alone (ids.Walk walk) o a n c h = visits_alone walk o a h.middle c h.made h.visits
comes_alone (ids.Request req) o a n c h = h.alone
comes_alone (ids.Notice sender receiver number) o a n c h = alone_same a c h.1

pub accepted_alone : (req : ReqId) (handle : HandleId) (asked : Submission) (o : Thread) (a : Links) (n : Thread) (c : Links) → IsAccepted req handle asked o a n c → AsksNothing a c
accepted_alone req handle asked o a n c h = alone_by o.me a c (accept_act req h.dev handle asked) refl h.opens.links

pub refused_alone : (errno : Errno) (handle : Option HandleId) (asked : Submission) (o : Thread) (a : Links) (n : Thread) (c : Links) → IsRefused errno handle asked o a n c → AsksNothing a c
refused_alone errno handle asked o a n c h = alone_by o.me a c (refuse_act handle asked errno) refl h.links

pub cuts_alone : (req : ReqId) (o : Thread) (a : Links) (n : Thread) (c : Links) (count : ℕ) → Cuts req o a n c count → AsksNothing a c
cuts_alone req o a n c count h = go (may_cut_now req o a) (request_here (view_of o a) req) h
  where
    go : (may : Bool) (r : Option OpenRequest) → CutsBy req count o a n c may r → AsksNothing a c
    go true (Some r) k = alone_by o.me a c (acts.Cut req count) refl k.links
    go true None k = alone_same a c k.2
    go false (Some r) k = alone_same a c k.2
    go false None k = alone_same a c k.2

pub ends_alone : (o : Thread) (a : Links) (n : Thread) (c : Links) (ended : Bool) → EndsLine o a n c ended → AsksNothing a c
ends_alone o a n c ended h = go (outcome_now o a) h
  where
    go : (outcome : Option Outcome) → EndsBy o a n c ended outcome → AsksNothing a c
    go None k = alone_same a c k.2
    go (Some outcome) k = alone_by o.me a c (acts.Script k.1.line.number outcome) refl k.1.links

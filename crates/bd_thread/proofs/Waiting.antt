-- Where nothing can be done, a thread waits.
use Rattle.std.proofs.Common.{◌≡◌, ◌⊎◌, inl, inr, ℕ, ◌+◌, ◌-◌, ◌<◌, ◌≤◌, Bool, true, false, cond, not, ◌&&◌, ◌||◌, ◌==◌, nat_eq, nat_le, nat_lt, List, [], ◌∷◌, length, vec_len, Option, Some, None, is_none, is_some, refl, sym, ◌∙◌, ap, subst, eq-eqb, eqb-true, arith}
use Rattle.std.specs.Bool.{beq}
use Rattle.std.specs.Cmp.Lexicographic.{pointwise}
use Rattle.std.specs.Option.{option_map, option_and_then}
use Rattle.std.specs.List.{find, list_any}
use Rattle.std.proofs.lemmas.Bool.{cases_lt, and_from}
use Rattle.std.proofs.lemmas.Bool.Decides.{nat_tests}
use Rattle.bd_base.specs.Name.{same_name}
use Rattle.bd_base.specs.declared.act.Outcome.{Outcome}
use Rattle.bd_base.specs.declared.act.Outcome.TheVariants as outcomes
use Rattle.bd_base.specs.declared.act.Token.{Token}
use Rattle.bd_base.specs.declared.event.ClaimKind.{ClaimKind}
use Rattle.bd_base.specs.declared.event.ClaimKind.TheVariants as kinds
use Rattle.bd_base.specs.declared.event.RegEvent.{RegEvent}
use Rattle.bd_base.specs.declared.event.RegEvent.TheVariants as events
use Rattle.bd_base.specs.declared.id.HandleId.{HandleId}
use Rattle.bd_base.specs.declared.id.ReqId.{ReqId}
use Rattle.bd_base.specs.declared.job.Job.{Job}
use Rattle.bd_base.specs.declared.job.Job.TheVariants as jobs
use Rattle.bd_base.specs.declared.job.Line.{Line}
use Rattle.bd_base.specs.declared.request.Errno.TheVariants.{Exists, NoDev}
use Rattle.bd_base.specs.declared.setup.Setup.{Setup}
use Rattle.bd_machine.specs.declared.state.Between.{Between}
use Rattle.bd_machine.specs.declared.state.Between.TheVariants.{Closing}
use Rattle.bd_machine.specs.declared.state.Decided.{Decided}
use Rattle.bd_machine.specs.declared.state.Due.{Due}
use Rattle.bd_machine.specs.declared.state.Handle.{Handle}
use Rattle.bd_machine.specs.declared.state.News.{News}
use Rattle.bd_machine.specs.declared.state.News.TheVariants as news
use Rattle.bd_machine.specs.declared.state.Owed.{Owed}
use Rattle.bd_machine.specs.Admission.{is_gone}
use Rattle.bd_machine.specs.Asked.{may_close as closes}
use Rattle.bd_machine.specs.Asked.{bound_to, busy_outcome, claim_outcome, close_outcome, is_handle_on, is_job_claim, is_job_close, is_job_open, is_job_remove, is_job_resize, owes_removal, is_open_handle, is_script_blocked, is_waiting_job, is_waiting_line, job_of, most_requests, next_line, open_on, outcome_by, outcome_due, undecided_job, undecided_outcome}
use Rattle.bd_machine.specs.Claims.{same_kind}
use Rattle.bd_machine.specs.Messages.{is_due, is_due_to, may_go}
use Rattle.bd_machine.specs.Registry.{device_named, handle_of}
use Rattle.bd_machine.specs.Same.{is_the, same_dev, same_handle, same_news, same_request}
use Rattle.bd_machine.specs.Users.{is_base_handle}
use Rattle.bd_machine.specs.View.{View}
use Rattle.bd_machine.proofs.Tables.{request_same}
use Rattle.bd_rule_view.specs.Came.{came_between}
use Rattle.bd_links.specs.Queues.{is_full}
use Rattle.bd_thread.specs.declared.links.Links.{Links}
use Rattle.bd_thread.specs.declared.thread.Thread.{Thread}
use Rattle.bd_thread.specs.declared.turn.Turned.{Turned}
use Rattle.bd_thread.specs.declared.turn.Turned.TheVariants.{Moved, Quiet}
use Rattle.bd_thread.specs.Acted.{Acted}
use Rattle.bd_thread.specs.Asleep.{is_asleep}
use Rattle.bd_steps.specs.Asking.{is_base_if_any}
use Rattle.bd_steps.specs.Duties.{duty_owed, growth_owed}
use Rattle.bd_steps.specs.Sending.{first_due, token_of}
use Rattle.bd_thread.specs.Duties.{NoDuty}
use Rattle.bd_thread.specs.Growing.{if_growable}
use Rattle.bd_thread.specs.Calls.{StandsAsked}
use Rattle.bd_touched.specs.Reach.{Touches}
use Rattle.bd_thread.specs.Looking.{LooksAt}
use Rattle.bd_thread.specs.Lines.{change_of, claim_if_bound, claim_of, close_of, handle_if_any, if_asked, if_closable, may_ask, may_ask_after, may_close, open_of}
use Rattle.bd_thread.specs.Moves.{turned_of}
use Rattle.bd_thread.specs.Requests.{KeepsTickets}
use Rattle.bd_thread.specs.Sent.{may_put, may_send}
use Rattle.bd_thread.specs.Seen.{local, view_of}
use Rattle.bd_thread.specs.Waits.{asks_unbuilt, is_line_waiting, is_submission, is_unbuilt, may_post, Idles, IsWaiting, NoDestructBelow, NoDestructOn, NoHandleBelow, NoHandleOn, NoLine, NoMessage, NoRefusal, NoRetry, NothingLeft, NothingToPost, NothingToSend, NothingToServe, Quiets, StandsBut, IsIdle, IsStill}
use Rattle.bd_thread.proofs.Going.{acted_then}
use Rattle.bd_thread.proofs.Calling.{stands_uncalled}
use Rattle.bd_thread.proofs.Idle.{idle_last, idle_then}
use Rattle.bd_thread.proofs.Leftovers.{found_is}
use Rattle.bd_thread.proofs.Tickets.{same_tickets}

-- ---- what is the same as itself

name_self : (xs : List ℕ) → same_name xs xs ≡ true
name_self [] = refl
name_self (x ∷ xs) = and_from (nat_eq x x) (pointwise nat_eq xs xs) (eq-eqb x x refl) (name_self xs)

flag_self : (b : Bool) → beq b b ≡ true
flag_self true = refl
flag_self false = refl

news_self : (told : News) → same_news told told ≡ true
news_self (news.Mark mark) = name_self mark
news_self (news.Gone handle) = eq-eqb handle.0 handle.0 refl
news_self (news.Channel dev) = eq-eqb dev.0 dev.0 refl
news_self (news.Device dev) = eq-eqb dev.0 dev.0 refl
news_self (news.Grow dev blocks) = and_from (same_dev dev dev) (blocks == blocks) (eq-eqb dev.0 dev.0 refl) (eq-eqb blocks blocks refl)
news_self (news.Sized handle blocks) = and_from (same_handle handle handle) (blocks == blocks) (eq-eqb handle.0 handle.0 refl) (eq-eqb blocks blocks refl)
news_self (news.Go req threads) = and_from (same_request req req) (threads.0 == threads.0) (request_same.same_self req) (eq-eqb threads.0 threads.0 refl)

some_same : {X : Type 0} {x y : X} → Some x ≡ Some y → x ≡ y
some_same e = cc

none_or_some : {X : Type 0} {x : X} {Q : Type 0} → None ≡ Some x → Q
none_or_some e = cc

-- ---- handles and devices that go

pub undestructed_below : (n m : ℕ) (t : Thread) (links : Links) → m ≡ n → NoDestructBelow n t links → NoDestructOn (record { 0 = m }) t links → NoDestructBelow (n + 1) t links
undestructed_below n m t links e below on dev less = go (cases_lt dev.0 n)
  where
    go : (dev.0 < n) ⊎ (n ≤ dev.0) → NoDestructOn dev t links
    go (inl h) = below dev h
    go (inr h) = let same : m ≡ dev.0 = omega (arith, e, h, less) in subst (λ (k : ℕ). NoDestructOn (record { 0 = k }) t links) same on

pub unclosed_below : (n m : ℕ) (t : Thread) (links : Links) → m ≡ n → NoHandleBelow n t links → NoHandleOn (record { 0 = m }) t links → NoHandleBelow (n + 1) t links
unclosed_below n m t links e below on dev less = go (cases_lt dev.0 n)
  where
    go : (dev.0 < n) ⊎ (n ≤ dev.0) → NoHandleOn dev t links
    go (inl h) = below dev h
    go (inr h) = let same : m ≡ dev.0 = omega (arith, e, h, less) in subst (λ (k : ℕ). NoHandleOn (record { 0 = k }) t links) same on

-- ---- the next line

none_some : {X : Type 0} {x : X} {Q : Type 0} → Some x ≡ None → Q
none_some h = cc

-- what may be done and isn't found, may not be done
not_asked : {X : Type 0} (x : X) (b : Bool) → cond b (Some x) None ≡ None → b ≡ false
not_asked x true h = none_some h
not_asked x false h = refl

false_true : {Q : Type 0} → false ≡ true → Q
false_true h = cc

no_room : (n m : ℕ) → nat_lt n m ≡ false → nat_le m n ≡ true
no_room n m h = grind (arith, nat_tests)

submission_waits : (n m : ℕ) → nat_lt n m ≡ false → (nat_le m n && true) || false ≡ true
submission_waits n m h = ap (λ b. (b && true) || false) (no_room n m h)

kind_self : (kind : ClaimKind) → same_kind kind kind ≡ true
kind_self kinds.Exclusive = refl
kind_self kinds.WriteOne = refl
kind_self kinds.WriteNone = refl
kind_self (kinds.Shared key) = eq-eqb key key refl

any_found : {X : Type 0} (is also : X → Bool) (xs : List X) (x : X) → find is xs ≡ Some x → also x ≡ true → list_any also xs ≡ true
any_found is also [] x h e = none_or_some h
any_found is also (y ∷ ys) x h e = go (is y) (also y) refl h (λ f. any_found is also ys x f e)
  where
    go : (a b : Bool) → also y ≡ b → cond a (Some y) (find is ys) ≡ Some x → (find is ys ≡ Some x → list_any also ys ≡ true) → b || list_any also ys ≡ true
    go a true k f rest = refl
    go true false k f rest = false_true (sym k ∙ ap also (some_same f) ∙ e)
    go false false k f rest = rest f

-- the thread t, where no Shutdown came and nothing has to follow at the registry
module _ (t : Thread) (links : Links) where
  abbrev stood : Bool → Option Between → Links
  stood shut between = record links { shut = shut; registry = record links.registry { state = record links.registry.state { between = between } } }

  abbrev free : Links
  free = stood false None

  abbrev seen : View
  seen = view_of t links

  abbrev asked : Option Job
  asked = undecided_job t.setup.now t.me t.part

  open_waits : (handle dev : List ℕ) (write : Bool) → asked ≡ Some (jobs.Open handle dev write) → if_asked t free (open_of asked) ≡ None → undecided_outcome seen (jobs.Open handle dev write) ≡ None → ⊥
  open_waits handle dev write is o e =
      let event : RegEvent = events.Open dev write in
      let unasked : cond (may_ask t free event) (Some event) None ≡ None = ap (λ (j : Option Job). if_asked t free (open_of j)) (sym is) ∙ o in
      let named : is_job_open seen dev write asked ≡ not (is_open_handle seen (bound_to t.part handle)) =
      ap (is_job_open seen dev write) is
      ∙ ap (λ b. b && not (is_open_handle seen (bound_to t.part handle))) (and_from (same_name dev dev) (beq write write) (name_self dev) (flag_self write)) in
      go (is_open_handle seen (bound_to t.part handle)) (sym named ∙ not_asked event (is_job_open seen dev write asked) unasked) e
    where
      go : (b : Bool) → not b ≡ false → cond b (Some (outcomes.Errno Exists)) None ≡ None → ⊥
      go true h e = none_some e
      go false h e = false_true (sym h)

  -- a claim that isn't asked has an outcome
  claim_waits : (handle : List ℕ) (kind : ClaimKind) (o : Option HandleId) → bound_to t.part handle ≡ o → asked ≡ Some (jobs.Claim handle kind) → if_asked t free (claim_if_bound kind o) ≡ None → claim_outcome seen o ≡ None → ⊥
  claim_waits handle kind None bound is c e = none_some e
  claim_waits handle kind (Some id) bound is c e = go (is_some (handle_of seen.handles id)) refl e
    where
      claims : is_job_claim t.part id kind asked ≡ true
      claims = ap (is_job_claim t.part id kind) is ∙ and_from (is_the same_handle id (bound_to t.part handle)) (same_kind kind kind) (ap (is_the same_handle id) bound ∙ eq-eqb id.0 id.0 refl) (kind_self kind)

      go : (own : Bool) → is_some (handle_of seen.handles id) ≡ own → cond own None (Some (outcomes.Errno NoDev)) ≡ None → ⊥
      go false k e = none_some e
      go true k e =
          let may : may_ask t free (events.Claim id kind) ≡ true = and_from (is_some (handle_of seen.handles id)) (is_job_claim t.part id kind asked) k claims in
          false_true (sym (not_asked (events.Claim id kind) (may_ask t free (events.Claim id kind)) c) ∙ may)

  -- a removal is asked
  remove_waits : (dev : List ℕ) → asked ≡ Some (jobs.Remove dev) → if_asked t free (change_of asked) ≡ None → ⊥
  remove_waits dev is r =
      let event : RegEvent = events.BeginRemove dev in
      let unasked : cond (may_ask t free event) (Some event) None ≡ None = ap (λ (j : Option Job). if_asked t free (change_of j)) (sym is) ∙ r in
      let may : may_ask t free event ≡ true =
      or_middle (owes_removal t.part (device_named t.setup.now dev)) (is_job_remove dev asked) ((t.me == 0) && false) (ap (is_job_remove dev) is ∙ name_self dev) in
      false_true (sym (not_asked event (may_ask t free event) unasked) ∙ may)
    where
      or_middle : (a b c : Bool) → b ≡ true → a || b || c ≡ true
      or_middle true b c e = refl
      or_middle false true c e = refl
      or_middle false false c e = false_true e

  -- a resize is asked
  resize_waits : (dev : List ℕ) (blocks : ℕ) → asked ≡ Some (jobs.Resize dev blocks) → if_asked t free (change_of asked) ≡ None → ⊥
  resize_waits dev blocks is r =
      let event : RegEvent = events.BeginResize dev blocks in
      let unasked : cond (may_ask t free event) (Some event) None ≡ None = ap (λ (j : Option Job). if_asked t free (change_of j)) (sym is) ∙ r in
      let may : may_ask t free event ≡ true = ap (is_job_resize dev blocks) is ∙ and_from (same_name dev dev) (blocks == blocks) (name_self dev) (eq-eqb blocks blocks refl) in
      false_true (sym (not_asked event (may_ask t free event) unasked) ∙ may)

  -- a handle of the thread that the line closes may be closed, where no request is open on it and it is no base handle
  closes_own : (handle : List ℕ) (id : HandleId) (h : Handle)
      → bound_to t.part handle ≡ Some id
      → asked ≡ Some (jobs.Close handle)
      → handle_of seen.handles id ≡ Some h
      → is_base_handle t.setup.now id ≡ false
      → (open_on t.part id == 0) ≡ true
      → may_close t free h ≡ true
  closes_own handle id h bound is own unbased idle =
      let exact : h.id ≡ id = ap (λ (n : ℕ). let i : HandleId = record { 0 = n } in i) (eqb-true h.id.0 id.0 (found_is (λ x. same_handle x.id id) seen.handles h own)) in
      let may : HandleId → Bool = λ i. closes t.setup.now t.me seen (came_between None false) i in
      let closable : may id ≡ true =
      four (not (is_base_handle t.setup.now id)) (is_some (handle_of seen.handles id)) (open_on t.part id == 0) (is_gone t.part id || is_job_close t.part id asked)
      (ap not unbased) (ap is_some own) idle (or_right (is_gone t.part id) (is_job_close t.part id asked) (ap (is_job_close t.part id) is ∙ ap (is_the same_handle id) bound ∙ eq-eqb id.0 id.0 refl)) in
      let so : may h.id ≡ true = ap may exact ∙ closable in
      let on : is_handle_on h.dev (handle_of seen.handles h.id) ≡ true = ap (λ (i : HandleId). is_handle_on h.dev (handle_of seen.handles i)) exact ∙ ap (is_handle_on h.dev) own ∙ eq-eqb h.dev.0 h.dev.0 refl in
      and_from (may_ask t free (events.PutChannel h.dev true)) (may_ask_after t free (Some (Closing t.me h.dev)) (events.Close h.id))
      (any_found (λ x. same_handle x.id id) (λ x. same_dev x.dev h.dev && may x.id) seen.handles h own (and_from (same_dev h.dev h.dev) (may h.id) (eq-eqb h.dev.0 h.dev.0 refl) so))
      (and_from (t.me == t.me) (is_handle_on h.dev (handle_of seen.handles h.id) && may h.id) (eq-eqb t.me t.me refl) (and_from (is_handle_on h.dev (handle_of seen.handles h.id)) (may h.id) on so))
    where
      or_right : (a b : Bool) → b ≡ true → a || b ≡ true
      or_right true b e = refl
      or_right false b e = e

      four : (a b c d : Bool) → a ≡ true → b ≡ true → c ≡ true → d ≡ true → a && b && c && d ≡ true
      four true true true true e f g h = refl
      four false b c d e f g h = e
      four true false c d e f g h = f
      four true true false d e f g h = g
      four true true true false e f g h = h

  -- a close that isn't asked has an outcome, unless its name is bound to a base handle
  close_waits : (handle : List ℕ) (o : Option HandleId) → bound_to t.part handle ≡ o → asked ≡ Some (jobs.Close handle) → if_closable t free (handle_if_any seen.handles o) ≡ None → close_outcome seen o ≡ None → is_base_if_any t.setup.now o ≡ true
  close_waits handle None bound is c e = none_some e
  close_waits handle (Some id) bound is c e = go (handle_of seen.handles id) refl c e
    where
      go : (own : Option Handle) → handle_of seen.handles id ≡ own → if_closable t free own ≡ None → cond (is_some own) (busy_outcome (open_on t.part id)) (Some (outcomes.Errno NoDev)) ≡ None → is_base_handle t.setup.now id ≡ true
      go None k c e = none_some e
      go (Some h) k c e = based (is_base_handle t.setup.now id) (open_on t.part id == 0) refl refl e
        where
          based : (base idle : Bool) → is_base_handle t.setup.now id ≡ base → (open_on t.part id == 0) ≡ idle → cond idle None (Some (outcomes.BusyOpen (open_on t.part id))) ≡ None → base ≡ true
          based true idle b i e = refl
          based false false b i e = none_some e
          based false true b i e = false_true (sym (not_asked h (may_close t free h) c) ∙ closes_own handle id h bound is k b i)

  job_waits : (job : Job)
      → asked ≡ Some job
      → if_asked t free (open_of asked) ≡ None
      → if_closable t free (handle_if_any seen.handles (close_of t.part asked)) ≡ None
      → if_asked t free (claim_of t.part asked) ≡ None
      → if_asked t free (change_of asked) ≡ None
      → is_submission asked && nat_lt (length t.part.requests) most_requests ≡ false
      → undecided_outcome seen job ≡ None
      → (is_waiting_job t.part job && is_none (undecided_outcome seen job)) || is_unbuilt t.setup.now seen job ≡ true
  job_waits (jobs.Open handle dev write) is o c k r s e = absurd (open_waits handle dev write is o e)
  job_waits (jobs.Close handle) is o c k r s e =
      close_waits handle (bound_to t.part handle) refl is (ap (λ (j : Option Job). if_closable t free (handle_if_any seen.handles (close_of t.part j))) (sym is) ∙ c) e
  job_waits (jobs.Claim handle kind) is o c k r s e =
      absurd (claim_waits handle kind (bound_to t.part handle) refl is (ap (λ (j : Option Job). if_asked t free (claim_of t.part j)) (sym is) ∙ k) e)
  job_waits (jobs.Submit handle op lba count) is o c k r s e =
      submission_waits (length t.part.requests) most_requests (ap (λ (j : Option Job). is_submission j && nat_lt (length t.part.requests) most_requests) (sym is) ∙ s)
  job_waits (jobs.Remove dev) is o c k r s e = absurd (remove_waits dev is r)
  job_waits jobs.Wait is o c k r s e = ap (λ (r : Option Outcome). is_none r || false) e
  job_waits (jobs.Sleep time) is o c k r s e = none_some e
  job_waits (jobs.Post mark) is o c k r s e = none_some e
  job_waits (jobs.Await mark) is o c k r s e = ap (λ (r : Option Outcome). is_none r || false) e
  job_waits (jobs.Gone handle) is o c k r s e = ap (λ (r : Option Outcome). is_none r || false) e
  job_waits (jobs.Resize dev blocks) is o c k r s e = absurd (resize_waits dev blocks is r)
  job_waits (jobs.Sized handle blocks) is o c k r s e = ap (λ (r : Option Outcome). is_none r || false) e

  -- what is said of the next line, by what decided it
  decided_waits : (line : Line) (decided : Option Decided)
      → next_line t.setup.now t.me t.part ≡ Some line
      → t.part.decided ≡ decided
      → if_asked t free (open_of asked) ≡ None
      → if_closable t free (handle_if_any seen.handles (close_of t.part asked)) ≡ None
      → if_asked t free (claim_of t.part asked) ≡ None
      → if_asked t free (change_of asked) ≡ None
      → is_submission asked && nat_lt (length t.part.requests) most_requests ≡ false
      → outcome_by seen decided line.job ≡ None
      → (is_none decided && is_waiting_job t.part line.job && is_none (undecided_outcome seen line.job)) || asks_unbuilt t.setup.now seen (cond (is_none decided) (Some line.job) None) ≡ true
  decided_waits line None is undecided o c k r s e =
      let asks : asked ≡ Some line.job = ap (λ (d : Option Decided). cond (is_none d) (option_map job_of (next_line t.setup.now t.me t.part)) None) undecided ∙ ap (option_map job_of) is in
      job_waits line.job asks o c k r s e
  decided_waits line (Some d) is decided o c k r s e = none_some e

  next_waits : (line : Option Line)
      → next_line t.setup.now t.me t.part ≡ line
      → if_asked t free (open_of asked) ≡ None
      → if_closable t free (handle_if_any seen.handles (close_of t.part asked)) ≡ None
      → if_asked t free (claim_of t.part asked) ≡ None
      → if_asked t free (change_of asked) ≡ None
      → is_submission asked && nat_lt (length t.part.requests) most_requests ≡ false
      → option_and_then (λ l. outcome_by seen t.part.decided l.job) line ≡ None
      → is_waiting_line seen line || asks_unbuilt t.setup.now seen (cond (is_none t.part.decided) (option_map job_of line) None) ≡ true
  next_waits None is o c k r s e = refl
  next_waits (Some line) is o c k r s e = decided_waits line t.part.decided is refl o c k r s e

  pub line_waits : NoLine t links → is_line_waiting t links ≡ true
  line_waits h = go links.shut links.registry.state.between (is_asleep t) h.opening h.closing h.claiming h.changing h.submission h.outcome
    where
      or_true : (b : Bool) → b || true ≡ true
      or_true true = refl
      or_true false = refl

      go : (shut : Bool) (between : Option Between) (asleep : Bool)
          → if_asked t (stood shut between) (open_of (cond shut None asked)) ≡ None
          → if_closable t (stood shut between) (handle_if_any seen.handles (close_of t.part (cond shut None asked))) ≡ None
          → if_asked t (stood shut between) (claim_of t.part (cond shut None asked)) ≡ None
          → if_asked t (stood shut between) (change_of (cond shut None asked)) ≡ None
          → is_submission (cond shut None asked) && nat_lt (length t.part.requests) most_requests ≡ false
          → cond (shut || asleep) None (outcome_due t.setup.now t.me seen) ≡ None
          → shut || is_some between || is_script_blocked t.setup.now t.me seen || asks_unbuilt t.setup.now seen asked || asleep ≡ true
      go true between asleep o c k r s e = refl
      go false (Some b) asleep o c k r s e = refl
      go false None true o c k r s e = or_true (is_script_blocked t.setup.now t.me seen || asks_unbuilt t.setup.now seen asked)
      go false None false o c k r s e = ap (λ b. b || false) (next_waits (next_line t.setup.now t.me t.part) refl o c k r s e)

-- ---- what is still to be put

pub none_out : (t : Thread) (links : Links) → (0 < length t.outbox.items → NothingToSend t links) → NothingToSend t links
none_out t links h = go t.outbox.items h
  where
    go : (xs : List (ℕ × Token)) → (0 < length xs → may_send t links xs ≡ false) → may_send t links xs ≡ false
    go [] h = refl
    go (x ∷ xs) h = h (omega arith)

pub none_due : (t : Thread) (links : Links) → (0 < length t.part.due → NothingToPost t links) → NothingToPost t links
none_due t links h = go t.part.due h
  where
    go : (ds : List Due) → (0 < length ds → may_post links ds ≡ false) → may_post links ds ≡ false
    go [] h = refl
    go (d ∷ ds) h = h (omega arith)

pub none_owed : (t : Thread) (links : Links) → (0 < length t.part.owed → NoDuty t links) → NoDuty t links
none_owed t links h = record { growth = growths t.part.owed (λ some. (h some).growth); event = duties t.part.owed (λ some. (h some).event) }
  where
    growths : (os : List Owed) → (0 < length os → if_growable t links (growth_owed os) ≡ None) → if_growable t links (growth_owed os) ≡ None
    growths [] h = refl
    growths (o ∷ os) h = h (omega arith)

    duties : (os : List Owed) → (0 < length os → if_asked t links (duty_owed t.setup.now os) ≡ None) → if_asked t links (duty_owed t.setup.now os) ≡ None
    duties [] h = refl
    duties (o ∷ os) h = h (omega arith)

-- the first message that is due may go, so far as the rules of where it goes are asked
first_goes : (setup : Setup) (me : ℕ) (view : View) (d : Due) (ds : List Due) → view.part.due ≡ d ∷ ds → may_go setup me view d.receiver (token_of d.news) ≡ true
first_goes setup me view d ds due = go d.news refl
  where
    first : (told : News) → d.news ≡ told → is_due view.part d.receiver (Some told) ≡ true
    first told e =
        let is : is_due_to d.receiver told d ≡ true = and_from (d.receiver == d.receiver) (same_news d.news told) (eq-eqb d.receiver d.receiver refl) (ap (λ n. same_news n told) e ∙ news_self told) in
        ap (list_any (is_due_to d.receiver told)) due ∙ ap (λ b. b || list_any (is_due_to d.receiver told) ds) is

    go : (told : News) → d.news ≡ told → may_go setup me view d.receiver (token_of told) ≡ true
    go (news.Mark mark) e = first (news.Mark mark) e
    go (news.Gone handle) e = first (news.Gone handle) e
    go (news.Channel dev) e = first (news.Channel dev) e
    go (news.Device dev) e = first (news.Device dev) e
    go (news.Go req threads) e = first (news.Go req threads) e
    go (news.Grow dev blocks) e = first (news.Grow dev blocks) e
    go (news.Sized handle blocks) e = first (news.Sized handle blocks) e

-- what may go and isn't put has no queue
no_queue : (queue goes room : Bool) → queue && goes ≡ false → goes ≡ true → queue && room ≡ false
no_queue false goes room h e = refl
no_queue true true room h e = cc
no_queue true false room h e = cc

-- where no message is due for which there is room, none can be put
pub full_waits : (t : Thread) (links : Links) → first_due links.queues.items t.part.due ≡ None → NothingToPost t links
full_waits t links none = go t.part.due none
  where
    by_room : (full there : Bool) (x : ℕ × Token) → cond full None (Some x) ≡ None → there && not full ≡ false
    by_room true true x e = refl
    by_room true false x e = refl
    by_room false there x e = none_some e

    go : (ds : List Due) → first_due links.queues.items ds ≡ None → may_post links ds ≡ false
    go [] e = refl
    go (d ∷ ds) e = by_room (is_full links.queues.items d.receiver) (nat_lt d.receiver (vec_len links.queues)) (d.receiver, token_of d.news) e

pub due_waits : (t : Thread) (links : Links) (x : ℕ × Token) → first_due links.queues.items t.part.due ≡ Some x → may_put t links x.0 x.1 ≡ false → NothingToPost t links
due_waits t links x first stays = go t.part.due refl first
  where
    is_first : (full : Bool) (y : ℕ × Token) → cond full None (Some y) ≡ Some x → y ≡ x
    is_first true y e = none_or_some e
    is_first false y e = some_same e

    go : (ds : List Due) → t.part.due ≡ ds → first_due links.queues.items ds ≡ Some x → may_post links ds ≡ false
    go [] due e = none_or_some e
    go (d ∷ ds) due e =
        let is : (d.receiver, token_of d.news) ≡ x = is_first (is_full links.queues.items d.receiver) (d.receiver, token_of d.news) e in
        let stays_so : may_put t links d.receiver (token_of d.news) ≡ false = subst (λ (y : ℕ × Token). may_put t links y.0 y.1 ≡ false) (sym is) stays in
        no_queue (nat_lt d.receiver (vec_len links.queues)) (may_go t.setup.now t.me (local t links).view d.receiver (token_of d.news)) (not (is_full links.queues.items d.receiver))
        stays_so
        (first_goes t.setup.now t.me (local t links).view d ds due)

-- ---- the answer of a turn

-- one part of a turn after the other
pub turn_idle : {Where : Thread → Type 0} (found : Option ReqId) (o : Thread) (a : Links) (p1 : Thread) (l1 : Links) (p2 : Thread) (l2 : Links) (p3 : Thread) (l3 : Links) (p4 : Thread) (l4 : Links) (p5 : Thread) (l5 : Links) (p6 : Thread) (l6 : Links) (p7 : Thread) (l7 : Links) (p8 : Thread) (l8 : Links) (p9 : Thread) (l9 : Links) (p10 : Thread) (l10 : Links) (p11 : Thread) (l11 : Links) (n : Thread) (c : Links)
    → Acted o a p1 l1
    → Acted p1 l1 p2 l2
    → Acted p2 l2 p3 l3
    → Acted p3 l3 p4 l4
    → Acted p4 l4 p5 l5
    → Acted p5 l5 p6 l6
    → Acted p6 l6 p7 l7
    → Acted p7 l7 p8 l8
    → Acted p8 l8 p9 l9
    → Acted p9 l9 p10 l10
    → Acted p10 l10 p11 l11
    → Acted p11 l11 n c
    → Idles NoMessage o a p1 l1
    → Idles NoRetry p1 l1 p2 l2
    → Idles NoDuty p2 l2 p3 l3
    → Idles NothingToServe p3 l3 p4 l4
    → Idles NoLine p4 l4 p5 l5
    → (length a.entries ≡ length l5.entries → Idles (StandsAsked None) p5 l5 p6 l6)
    → Idles NothingLeft p6 l6 p7 l7
    → Idles NothingToSend p7 l7 p8 l8
    → Idles NothingToPost p8 l8 p9 l9
    → (length a.entries ≡ length l9.entries → Idles (StandsBut Where found) p9 l9 p10 l10)
    → (length a.entries ≡ length l10.entries → Idles (StandsAsked found) p10 l10 p11 l11)
    → (length a.entries ≡ length l11.entries → Idles NoRefusal p11 l11 n c)
    → Idles (IsWaiting Where) o a n c
turn_idle {Where} found o a p1 l1 p2 l2 p3 l3 p4 l4 p5 l5 p6 l6 p7 l7 p8 l8 p9 l9 p10 l10 p11 l11 n c acted0 acted1 acted2 acted3 acted4 acted5 acted6 acted7 acted8 acted9 acted10 acted11 message retry duty piece line called left outbox due request asked refusal =
    let so1 : Idles (λ t links. NoMessage t links × NoRetry t links) o a p2 l2 =
    idle_then o a p1 l1 p2 l2 acted0 acted1 (λ first next. (first, next)) message retry in
    let both1 = acted_then o a p1 l1 p2 l2 acted0 acted1 in
    let so2 : Idles (λ t links. NoMessage t links × NoRetry t links × NoDuty t links) o a p3 l3 =
    idle_then o a p2 l2 p3 l3 both1 acted2 (λ so next. (so.0, so.1, next)) so1 duty in
    let both2 = acted_then o a p2 l2 p3 l3 both1 acted2 in
    let so3 : Idles (λ t links. NoMessage t links × NoRetry t links × NoDuty t links × NothingToServe t links) o a p4 l4 =
    idle_then o a p3 l3 p4 l4 both2 acted3 (λ so next. (so.0, so.1, so.2, next)) so2 piece in
    let both3 = acted_then o a p3 l3 p4 l4 both2 acted3 in
    let so4 : Idles (λ t links. NoMessage t links × NoRetry t links × NoDuty t links × NothingToServe t links × NoLine t links) o a p5 l5 =
    idle_then o a p4 l4 p5 l5 both3 acted4 (λ so next. (so.0, so.1, so.2, so.3, next)) so3 line in
    let both4 = acted_then o a p4 l4 p5 l5 both3 acted4 in
    let so5 : Idles (λ t links. NoMessage t links × NoRetry t links × NoDuty t links × NothingToServe t links × NoLine t links) o a p6 l6 =
    idle_last o a p5 l5 p6 l6 both4 acted5 (λ so next. so) so4 called in
    let both5 = acted_then o a p5 l5 p6 l6 both4 acted5 in
    let so6 : Idles (λ t links. NoMessage t links × NoRetry t links × NoDuty t links × NothingToServe t links × NoLine t links × NothingLeft t links) o a p7 l7 =
    idle_then o a p6 l6 p7 l7 both5 acted6 (λ so next. (so.0, so.1, so.2, so.3, so.4, next)) so5 left in
    let both6 = acted_then o a p6 l6 p7 l7 both5 acted6 in
    let so7 : Idles (λ t links. NoMessage t links × NoRetry t links × NoDuty t links × NothingToServe t links × NoLine t links × NothingLeft t links × NothingToSend t links) o a p8 l8 =
    idle_then o a p7 l7 p8 l8 both6 acted7 (λ so next. (so.0, so.1, so.2, so.3, so.4, so.5, next)) so6 outbox in
    let both7 = acted_then o a p7 l7 p8 l8 both6 acted7 in
    let so8 : Idles (λ t links. NoMessage t links × NoRetry t links × NoDuty t links × NothingToServe t links × NoLine t links × NothingLeft t links × NothingToSend t links × NothingToPost t links) o a p9 l9 =
    idle_then o a p8 l8 p9 l9 both7 acted8 (λ so next. (so.0, so.1, so.2, so.3, so.4, so.5, so.6, next)) so7 due in
    let both8 = acted_then o a p8 l8 p9 l9 both7 acted8 in
    let so9 : Idles (λ t links. NoMessage t links × NoRetry t links × NoDuty t links × NothingToServe t links × NoLine t links × NothingLeft t links × NothingToSend t links × NothingToPost t links × StandsBut Where found t links) o a p10 l10 =
    idle_last o a p9 l9 p10 l10 both8 acted9 (λ so next. (so.0, so.1, so.2, so.3, so.4, so.5, so.6, so.7, next)) so8 request in
    let both9 = acted_then o a p9 l9 p10 l10 both8 acted9 in
    let so10 : Idles (λ t links. NoMessage t links × NoRetry t links × NoDuty t links × NothingToServe t links × NoLine t links × NothingLeft t links × NothingToSend t links × NothingToPost t links × StandsBut Where found t links × StandsAsked found t links) o a p11 l11 =
    idle_last o a p10 l10 p11 l11 both9 acted10 (λ so next. (so.0, so.1, so.2, so.3, so.4, so.5, so.6, so.7, so.8, next)) so9 asked in
    idle_last o a p11 l11 n c (acted_then o a p10 l10 p11 l11 both9 acted10) acted11
    (λ so next. record { message = so.0; retry = so.1; duty = so.2; piece = so.3.piece; mark = so.3.mark; limit = so.3.limit; walk = so.3.walk; line = line_waits o a so.4; left = so.5; outbox = so.6; due = so.7; request = so.8.none; call = λ looked. stands_uncalled found o a (so.8.finds looked) so.9; refusal = next }) so10 refusal

-- what is noted to be asked, and what is to be looked at, is nothing that a thread waits for, sees or keeps
pub waits_noted : {Where : Thread → Type 0} (t : Thread) (links : Links) (u : Thread) → (Where (record t { calls = u.calls; touched = u.touched }) → Where t) → IsWaiting Where t links → IsWaiting Where (record t { calls = u.calls; touched = u.touched }) links
waits_noted t links u where_so w = record {
  message = w.message;
  refusal = w.refusal;
  retry = w.retry;
  duty = record { growth = w.duty.growth; event = w.duty.event };
  piece = w.piece;
  mark = w.mark;
  limit = λ i l at. record { head = (w.limit i l at).head; tick = (w.limit i l at).tick; pass = (w.limit i l at).pass };
  walk = w.walk;
  line = w.line;
  left = record { removal = w.left.removal; own = record { handle = w.left.own.handle; device = w.left.own.device } };
  outbox = w.outbox;
  due = w.due;
  request = λ looked i o at.
      let n = w.request (where_so looked) i o at in
      record { step = n.step; named = n.named; still = record { release = n.still.release; hold = n.still.hold; completion = n.still.completion }; out = n.out };
  call = λ looked. w.call (where_so looked);
}

pub acted_noted : (o : Thread) (a : Links) (n : Thread) (c : Links) (u : Thread) → u ≡ record n { calls = u.calls } → Acted o a n c → Acted o a u c
acted_noted o a n c u is h =
    subst (λ (t : Thread). Acted o a t c) (sym is) (record { me = h.me; setup = h.setup; queues = h.queues; rows = h.rows; entries = h.entries; added = h.added; acts = h.acts; leads = h.leads; timely = record { time = h.timely.time; named = h.timely.named; fits = h.timely.fits; slices = h.timely.slices }; held = h.held })

pub tickets_noted : (n : Thread) (u : Thread) → u ≡ record n { calls = u.calls } → KeepsTickets n → KeepsTickets u
tickets_noted n u is keeps = same_tickets n u (ap (λ (t : Thread). t.purse.ids) is) (ap (λ (t : Thread). t.part.requests) is) (ap (λ (t : Thread). t.part.next_request) is) keeps

pub acted_looked : (o : Thread) (a : Links) (n : Thread) (c : Links) (u : Thread) → u ≡ record n { touched = u.touched } → Acted o a n c → Acted o a u c
acted_looked o a n c u is h =
    subst (λ (t : Thread). Acted o a t c) (sym is) (record { me = h.me; setup = h.setup; queues = h.queues; rows = h.rows; entries = h.entries; added = h.added; acts = h.acts; leads = h.leads; timely = record { time = h.timely.time; named = h.timely.named; fits = h.timely.fits; slices = h.timely.slices }; held = h.held })

pub tickets_looked : (n : Thread) (u : Thread) → u ≡ record n { touched = u.touched } → KeepsTickets n → KeepsTickets u
tickets_looked n u is keeps = same_tickets n u (ap (λ (t : Thread). t.purse.ids) is) (ap (λ (t : Thread). t.part.requests) is) (ap (λ (t : Thread). t.part.next_request) is) keeps

-- one after the other
pub noted_both : (n m u : Thread) → m ≡ record n { touched = m.touched } → u ≡ record m { calls = u.calls } → u ≡ record n { calls = u.calls; touched = u.touched }
noted_both n m u looked noted =
    noted
    ∙ ap (λ (t : Thread). let x : Thread = record t { calls = u.calls } in x) looked
    ∙ ap (λ (y : Touches). let x : Thread = record n { calls = u.calls; touched = y } in x) (sym (ap (λ (t : Thread). t.touched) noted))

-- where nothing but that changed, it waits as before
pub still_by : {Where : Thread → Type 0} (o b : Thread) (a : Links) (n : Thread) (c : Links) (u : Thread)
    → ((t v : Thread) → Where (record t { calls = v.calls; touched = v.touched }) → Where t)
    → b ≡ record o { touched = b.touched }
    → u ≡ record n { calls = u.calls; touched = u.touched }
    → IsIdle (IsWaiting Where) b a n c
    → IsStill (IsWaiting Where) o a u c
still_by {Where} o b a n c u where_so began is i =
    let noted : Thread → Thread = λ t. record t { calls = u.calls; touched = u.touched } in
    let thread-is : u ≡ noted b = is ∙ ap noted i.thread in
    record {
      thread = thread-is ∙ ap noted began;
      links = i.links;
      waits = subst (λ (t : Thread). IsWaiting Where t c) (sym thread-is) (subst (λ (l : Links). IsWaiting Where (noted b) l) (sym i.links) (waits_noted b a u (where_so b u) i.waits));
    }

-- quiet is answered where no entry was added, whatever is noted then, and whatever is to be looked at
pub quiet_by : (o b : Thread) (x : Touches) (a : Links) (n : Thread) (c : Links) (u : Thread) (turned : Turned)
    → turned ≡ turned_of (length a.entries) (length c.entries)
    → x ≡ o.touched
    → b ≡ record o { touched = b.touched }
    → u ≡ record n { calls = u.calls; touched = u.touched }
    → Idles (IsWaiting (LooksAt x)) b a n c
    → Quiets o a u c turned
quiet_by o b x a n c u turned e was began is h = subst (Quiets o a u c) (sym e) (go (length a.entries == length c.entries) refl)
  where
    still : IsIdle (IsWaiting (LooksAt x)) b a n c → IsStill (IsWaiting (LooksAt o.touched)) o a u c
    still i = subst (λ (y : Touches). IsStill (IsWaiting (LooksAt y)) o a u c) was (still_by {Where = LooksAt x} o b a n c u (λ t v looks. looks) began is i)

    go : (b : Bool) → (length a.entries == length c.entries) ≡ b → Quiets o a u c (cond b Quiet (Moved (length c.entries - length a.entries)))
    go true same = still (h (let k : length a.entries ≡ length c.entries = eqb-true (length a.entries) (length c.entries) same in omega arith))
    go false same = tt

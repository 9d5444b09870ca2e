-- A line waits by the rule of bd_rule_lines exactly where the machine says that it waits.
use Rattle.std.proofs.Common.{◌≡◌, ℕ, Bool, true, false, cond, not, ◌&&◌, ◌==◌, nat_lt, nat_le, length, Option, Some, None, is_none, is_some, refl, sym, ap, ◌∙◌, arith, ltb-false, le-leb}
use Rattle.std.proofs.lemmas.Bool.{lt-leb, ltb-true}
use Rattle.std.proofs.lemmas.Grind.{common_steps}
use Rattle.bd_base.specs.declared.act.Outcome.{Outcome}
use Rattle.bd_base.specs.declared.act.Outcome.TheVariants as outcomes
use Rattle.bd_base.specs.declared.id.HandleId.{HandleId}
use Rattle.bd_base.specs.declared.job.Job.{Job}
use Rattle.bd_base.specs.declared.job.Job.TheVariants as jobs
use Rattle.bd_base.specs.declared.job.Line.{Line}
use Rattle.bd_machine.specs.declared.state.Decided.{Decided}
use Rattle.bd_machine.specs.declared.state.Handle.{Handle}
use Rattle.bd_machine.specs.declared.state.Part.{Part}
use Rattle.bd_machine.specs.Admission.{is_gone, size_of_handle}
use Rattle.bd_machine.specs.Asked.{bound_to, gone_outcome, grown_outcome, has_mark, is_waiting_job, is_waiting_line, most_requests, sized_outcome, undecided_outcome}
use Rattle.bd_machine.specs.Registry.{handle_of}
use Rattle.bd_machine.specs.View.{View}
use Rattle.bd_rule_lines.specs.declared.moves.Why.{Why}
use Rattle.bd_rule_lines.specs.Moves.{job_if_any, line_waits_for, waits_for, where_holds}
use Rattle.bd_rule_script.specs.Waits.{awaits_removal, awaits_size, is_smaller, known_by}

some_where : (b : Bool) (why : Why) → is_some (where_holds b why) ≡ b
some_where true why = refl
some_where false why = refl

none_where : (b : Bool) (o : Outcome) → is_none (cond b (Some o) None) ≡ not b
none_where true o = refl
none_where false o = refl

no_room : (n m : ℕ) (b : Bool) → nat_lt n m ≡ b → not b ≡ (nat_le m n && true)
no_room n m true e = sym (ap (λ (t : Bool). t && true) (lt-leb m n (ltb-true n m e)))
no_room n m false e = sym (ap (λ (t : Bool). t && true) (le-leb m n (ltb-false n m e)))

some_open : (n : ℕ) → nat_lt 0 n ≡ not (n == 0)
some_open n = grind (arith, common_steps)

gone_waits : (part : Part) (why : Why) (handle : Option HandleId) → is_some (where_holds (awaits_removal part handle) why) ≡ is_none (gone_outcome part handle)
gone_waits part why None = refl
gone_waits part why (Some id) = some_where (not (is_gone part id)) why ∙ sym (none_where (is_gone part id) outcomes.Done)

less : (n m : ℕ) (b : Bool) → nat_lt n m ≡ b → b ≡ not (nat_le m n)
less n m true e = sym (ap not (lt-leb m n (ltb-true n m e)))
less n m false e = sym (ap not (le-leb m n (ltb-false n m e)))

grown_waits : (part : Part) (why : Why) (blocks : ℕ) (handle : Option Handle) → is_some (where_holds (is_smaller part blocks handle) why) ≡ is_none (grown_outcome part blocks handle)
grown_waits part why blocks None = refl
grown_waits part why blocks (Some h) =
    some_where (nat_lt (size_of_handle part h) blocks) why
    ∙ less (size_of_handle part h) blocks (nat_lt (size_of_handle part h) blocks) refl
    ∙ sym (none_where (nat_le blocks (size_of_handle part h)) outcomes.Done)

sized_waits : (v : View) (why : Why) (blocks : ℕ) (handle : Option HandleId) → is_some (where_holds (awaits_size v handle blocks) why) ≡ is_none (sized_outcome v blocks handle)
sized_waits v why blocks None = refl
sized_waits v why blocks (Some id) = grown_waits v.part why blocks (handle_of v.handles id)

-- the line waits by the rule exactly where it waits by the machine's
pub agrees : (v : View) (job : Job) → is_some (waits_for (known_by v) job) ≡ (is_waiting_job v.part job && is_none (undecided_outcome v job))
agrees v (jobs.Open handle dev write) = refl
agrees v (jobs.Close handle) = refl
agrees v (jobs.Claim handle kind) = refl
agrees v (jobs.Submit handle op lba count) = some_where (not (nat_lt (length v.part.requests) most_requests)) _ ∙ no_room (length v.part.requests) most_requests (nat_lt (length v.part.requests) most_requests) refl
agrees v (jobs.Remove dev) = refl
agrees v jobs.Wait = some_where (nat_lt 0 (length v.part.requests)) _ ∙ some_open (length v.part.requests) ∙ sym (none_where (length v.part.requests == 0) outcomes.Done)
agrees v (jobs.Sleep micros) = refl
agrees v (jobs.Post mark) = refl
agrees v (jobs.Await mark) = some_where (not (has_mark v.part mark)) _ ∙ sym (none_where (has_mark v.part mark) outcomes.Done)
agrees v (jobs.Gone handle) = gone_waits v.part _ (bound_to v.part handle)
agrees v (jobs.Resize dev blocks) = refl
agrees v (jobs.Sized handle blocks) = sized_waits v _ blocks (bound_to v.part handle)

right_of : (a b : Bool) → a && b ≡ true → b ≡ true
right_of true b e = e
right_of false true e = refl
right_of false false e = e

none_of : (o : Option Outcome) → is_none o ≡ true → o ≡ None
none_of None e = refl
none_of (Some o) e = cc

-- a line that waits has no outcome
pub waiting : (v : View) (job : Job) (why : Why) → waits_for (known_by v) job ≡ Some why → undecided_outcome v job ≡ None
waiting v job why e =
    let both : is_waiting_job v.part job && is_none (undecided_outcome v job) ≡ true = sym (agrees v job) ∙ ap is_some e in
    none_of (undecided_outcome v job) (right_of (is_waiting_job v.part job) (is_none (undecided_outcome v job)) both)

three_true : (d : Option Decided) (b c : Bool) → b && c ≡ true → is_none d && b && c ≡ is_none d
three_true None b c e = e
three_true (Some d) b c e = refl

three_false : (d : Option Decided) (b c : Bool) → b && c ≡ false → is_none d && b && c ≡ false
three_false None b c e = e
three_false (Some d) b c e = refl

-- the script is blocked where its next line waits and nothing decided it
pub blocked_line : (v : View) (line : Option Line) (why : Why) → line_waits_for (known_by v) line ≡ Some why → is_waiting_line v line ≡ is_none v.part.decided
blocked_line v None why e = cc
blocked_line v (Some line) why e =
    three_true v.part.decided (is_waiting_job v.part line.job) (is_none (undecided_outcome v line.job)) (sym (agrees v line.job) ∙ ap is_some e)

-- and it isn't where that waits for nothing
pub going_line : (v : View) (line : Option Line) (job : Job) → job_if_any line ≡ Some job → waits_for (known_by v) job ≡ None → is_waiting_line v line ≡ false
going_line v None job is e = cc
going_line v (Some line) job is e =
    let same : line.job ≡ job = cc in
    let waits : waits_for (known_by v) line.job ≡ None = ap (waits_for (known_by v)) same ∙ e in
    three_false v.part.decided (is_waiting_job v.part line.job) (is_none (undecided_outcome v line.job)) (sym (agrees v line.job) ∙ ap is_some waits)

-- What was taken over: nothing, an event, another act, and some and then some more.
use Rattle.std.proofs.Common.{◌≡◌, ℕ, ◌+◌, ◌≤◌, Bool, true, false, cond, ◌||◌, List, [], ◌∷◌, ◌++◌, length, Option, Some, None, is_some, refl, sym, ◌∙◌, ap, ap₂, subst, append_assoc, append-nil, length-append, arith}
use Rattle.std.proofs.lemmas.List.Elements.{filter-append}
use Rattle.bd_base.specs.declared.act.Act.{Act}
use Rattle.bd_base.specs.declared.act.Act.TheVariants as acts
use Rattle.bd_base.specs.declared.act.Entry.{Entry}
use Rattle.bd_base.specs.declared.event.Answer.{Answer}
use Rattle.bd_base.specs.declared.event.RegEvent.{RegEvent}
use Rattle.bd_base.specs.declared.setup.Setup.{Setup}
use Rattle.bd_machine.specs.declared.state.Registry.{Registry}
use Rattle.bd_machine.specs.Changes.{registry_after}
use Rattle.bd_machine.specs.Registry.{Question}
use Rattle.bd_machine.specs.Step.{is_shutdown}
use Rattle.bd_machine.specs.View.{asked}
use Rattle.bd_log.specs.Log.{Written, entry_of}
use Rattle.bd_law_logs.specs.Journals.{events, is_event, registry_by, registry_next, IsReplay}
use Rattle.bd_registry.specs.State.{Registered, registered}
use Rattle.bd_law_threads.specs.Course.{acts_of, restamped}
use Rattle.bd_seat.specs.Taking.{is_event_act, Appends, AppendsAlone, TakesOver}

pub appends_none : (log : Written) → Appends log [] log
appends_none log = record { thread = refl; entries = sym (append-nil log.entries); last = omega arith }

pub appends_more : (log : Written) (xs : List Entry) (log' : Written) (ys : List Entry) (log'' : Written) → Appends log xs log' → Appends log' ys log'' → Appends log (xs ++ ys) log''
appends_more log xs log' ys log'' f g =
    let count : length (xs ++ ys) ≡ length xs + length ys = length-append xs ys in
    let first : log'.last ≡ log.last + length xs = f.last in
    let second : log''.last ≡ log'.last + length ys = g.last in
    record {
      thread = g.thread ∙ f.thread;
      entries = g.entries ∙ ap (λ (es : List Entry). es ++ ys) f.entries ∙ append_assoc log.entries xs ys;
      last = omega arith;
    }

pub alone_none : (log : Written) → AppendsAlone log [] log
alone_none log = record { log_is = appends_none log; none_asks = refl }

pub alone_more : (log : Written) (xs : List Entry) (log' : Written) (ys : List Entry) (log'' : Written) → AppendsAlone log xs log' → AppendsAlone log' ys log'' → AppendsAlone log (xs ++ ys) log''
alone_more log xs log' ys log'' f g = record {
  log_is = appends_more log xs log' ys log'' f.log_is g.log_is;
  none_asks = filter-append is_event xs ys ∙ ap₂ (λ (es fs : List Entry). es ++ fs) f.none_asks g.none_asks;
}

pub alone_one : (log log' : Written) (act : Act)
    → is_event_act act ≡ false
    → log'.entries ≡ log.entries ++ entry_of log act ∷ []
    → log'.last ≡ log.last + 1
    → log'.thread ≡ log.thread
    → AppendsAlone log (restamped log.thread log.last (act ∷ [])) log'
alone_one log log' act is entries last thread =
    let x : Entry = record { stamp = log.last + 1; thread = log.thread; act = act } in
    record {
      log_is = record { thread = thread; entries = entries; last = last };
      none_asks = ap (λ (b : Bool). cond b (x ∷ []) []) is;
    }

pub takes_none : (log : Written) (r : Registered) → r.last ≤ log.last → TakesOver log r [] log r
takes_none log r within = record {
  log_is = appends_none log;
  setup = refl;
  journal = sym (append-nil r.journal);
  state = refl;
  within = within;
}

pub takes_event : (log log' : Written) (r r' : Registered) (event : RegEvent) (answer given : Answer) (stamp : ℕ)
    → stamp ≡ log.last + 1
    → given ≡ answer
    → r' ≡ registered r log.thread stamp event given
    → log'.entries ≡ log.entries ++ entry_of log (acts.Reg event answer) ∷ []
    → log'.last ≡ log.last + 1
    → log'.thread ≡ log.thread
    → TakesOver log r (restamped log.thread log.last (acts.Reg event answer ∷ [])) log' r'
takes_event log log' r r' event answer given stamp stamp-is same after entries last thread =
    let is : r' ≡ registered r log.thread (log.last + 1) event answer = after ∙ ap₂ (λ (n : ℕ) (a : Answer). registered r log.thread n event a) stamp-is same in
    let at : r'.last ≡ log.last + 1 = ap (λ (x : Registered). x.last) is in
    record {
      log_is = record { thread = thread; entries = entries; last = last };
      setup = ap (λ (x : Registered). x.setup) is;
      journal = ap (λ (x : Registered). x.journal) is;
      state = ap (λ (x : Registered). x.state) is;
      within = omega arith;
    }

none_asked : (o : Option Question) (b : Bool) → (is_some o || b) ≡ false → o ≡ None
none_asked None b h = refl
none_asked (Some q) b h = cc

pub takes_act : (log log' : Written) (r : Registered) (act : Act)
    → is_some (asked act) ≡ false
    → is_shutdown act ≡ false
    → r.last ≤ log.last
    → log'.entries ≡ log.entries ++ entry_of log act ∷ []
    → log'.last ≡ log.last + 1
    → log'.thread ≡ log.thread
    → TakesOver log r (restamped log.thread log.last (act ∷ [])) log' r
takes_act log log' r act asks shuts within entries last thread =
    let is : is_event_act act ≡ false = ap₂ (λ (a b : Bool). a || b) asks shuts in
    let alone : AppendsAlone log (restamped log.thread log.last (act ∷ [])) log' = alone_one log log' act is entries last thread in
    record {
      log_is = alone.log_is;
      setup = refl;
      journal = sym (append-nil r.journal) ∙ ap (λ (es : List Entry). r.journal ++ es) (sym alone.none_asks);
      state = ap (λ (o : Option Question). registry_after r.setup r.state log.thread o) (sym (none_asked (asked act) (is_shutdown act) is));
      within = omega arith;
    }

by_more : (setup : Setup) (registry : Registry) (xs ys : List Entry) → registry_by setup registry (xs ++ ys) ≡ registry_by setup (registry_by setup registry xs) ys
by_more setup registry [] ys = refl
by_more setup registry (x ∷ xs) ys = by_more setup (registry_next setup registry x) xs ys

pub takes_more : (log : Written) (r : Registered) (xs : List Entry) (log' : Written) (r' : Registered) (ys : List Entry) (log'' : Written) (r'' : Registered)
    → TakesOver log r xs log' r' → TakesOver log' r' ys log'' r'' → TakesOver log r (xs ++ ys) log'' r''
takes_more log r xs log' r' ys log'' r'' f g = record {
  log_is = appends_more log xs log' ys log'' f.log_is g.log_is;
  setup = g.setup ∙ f.setup;
  journal = g.journal ∙ ap (λ (es : List Entry). es ++ events ys) f.journal ∙ append_assoc r.journal (events xs) (events ys) ∙ ap (λ (es : List Entry). r.journal ++ es) (sym (filter-append is_event xs ys));
  state = g.state ∙ ap₂ (λ (s : Setup) (q : Registry). registry_by s q ys) f.setup f.state ∙ sym (by_more r.setup r.state xs ys);
  within = g.within;
}

-- the first act is taken over, and the others are left
pub stamps_next : (log log' : Written) (added : List Entry) (e : Entry) (es : List Entry) (whole : List Entry)
    → log'.thread ≡ log.thread
    → log'.last ≡ log.last + 1
    → added ++ restamped log.thread log.last (acts_of (e ∷ es)) ≡ whole
    → (added ++ restamped log.thread log.last (e.act ∷ [])) ++ restamped log'.thread log'.last (acts_of es) ≡ whole
stamps_next log log' added e es whole thread last is =
    append_assoc added (restamped log.thread log.last (e.act ∷ [])) (restamped log'.thread log'.last (acts_of es))
    ∙ ap₂ (λ (t n : ℕ). added ++ (restamped log.thread log.last (e.act ∷ []) ++ restamped t n (acts_of es))) thread last
    ∙ is

-- where none of the entries asks the registry, the first doesn't, and none of the others
pub none_first : (e : Entry) (es : List Entry) → events (e ∷ es) ≡ [] → (is_event_act e.act ≡ false) × (events es ≡ [])
none_first e es none = go (is_event_act e.act) refl none
  where
    go : (b : Bool) → is_event_act e.act ≡ b → cond b (e ∷ events es) (events es) ≡ [] → (is_event_act e.act ≡ false) × (events es ≡ [])
    go true is h = absurd (let some : e ∷ events es ≡ [] = h in cc)
    go false is h = (is, h)

-- what the registry answers to the others, once the first was taken over
pub replay_next : (log log' : Written) (r r' : Registered) (e : Entry) (es : List Entry)
    → e.thread ≡ log.thread
    → TakesOver log r (restamped log.thread log.last (e.act ∷ [])) log' r'
    → IsReplay r.setup (registry_next r.setup r.state e) es
    → IsReplay r'.setup r'.state es
replay_next log log' r r' e es own took left =
    subst (λ (s : Setup). IsReplay s r'.state es) (sym took.setup)
    (subst (λ (q : Registry). IsReplay r.setup q es) (ap (λ (t : ℕ). registry_after r.setup r.state t (asked e.act)) own ∙ sym took.state) left)

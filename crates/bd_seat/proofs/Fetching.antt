-- What came to a thread: nothing, and one post more.
use Rattle.std.proofs.Common.{◌≡◌, ℕ, ◌<◌, ◌≤◌, Bool, true, false, cond, ◌==◌, List, [], ◌∷◌, ◌++◌, refl, sym, ◌∙◌, ap, subst, append_assoc, append-nil, inr, arith}
use Rattle.std.specs.Prelude.{max}
use Rattle.std.specs.List.{AllByRecursion}
use Rattle.std.proofs.lemmas.List.{map-append}
use Rattle.std.proofs.Math.Nat.{le-max_left, le-max_right}
use mathlib.Core.Path.{fun_ext}
use Rattle.bd_turns.specs.declared.queue.Message.{Message}
use Rattle.bd_turns.specs.declared.queue.Post.{Post}
use Rattle.bd_links.specs.Queues.{queues_of, Pushed}
use Rattle.bd_log.specs.Log.{Written}
use Rattle.bd_ring.specs.Posts.{Brings}
use Rattle.bd_ring.specs.Rings.{Receiver, Took, WasEmpty, after_miss, after_take, one_further}
use Rattle.bd_seat.specs.Incoming.{last_with, message_of, messages_of, with_last, IsMet, Fetched, HasFetchedAll}

-- no message more
none_last : (to : ℕ) (queues : ℕ → List Message) → queues ≡ with_last to [] queues
none_last to queues = fun_ext (λ (r : ℕ). go (r == to) (queues r))
  where
    go : (b : Bool) (ms : List Message) → ms ≡ cond b (ms ++ []) ms
    go true ms = sym (append-nil ms)
    go false ms = refl

-- some messages, and then some more
pub more_last : (to : ℕ) (ms ns : List Message) (queues : ℕ → List Message) → with_last to ns (with_last to ms queues) ≡ with_last to (ms ++ ns) queues
more_last to ms ns queues = fun_ext (λ (r : ℕ). go (r == to) (queues r))
  where
    go : (b : Bool) (qs : List Message) → cond b (cond b (qs ++ ms) qs ++ ns) (cond b (qs ++ ms) qs) ≡ cond b (qs ++ (ms ++ ns)) qs
    go true qs = append_assoc qs ms ns
    go false qs = refl

pub fetched_none : (me : ℕ) (pass : Receiver) (log : Written) (queues : List (List Message)) → Fetched me pass log queues pass log queues
fetched_none me pass log queues = record {
  posts = [];
  taken = ap (λ (ps : List Post). let r : Receiver = record pass { taken = ps } in r) (sym (append-nil pass.taken));
  queued = none_last me (queues_of queues);
  log_is = refl;
  last = refl;
  later = omega arith;
  met = tt;
}

-- a greater last stamp, and one post more
met_more : (senders last later : ℕ) (ps : List Post) (p : Post) → last ≤ later → AllByRecursion (IsMet senders last) ps → IsMet senders later p → AllByRecursion (IsMet senders later) (ps ++ p ∷ [])
met_more senders last later [] p le all one = (one, tt)
met_more senders last later (x ∷ xs) p le all one = (
  record { sender = all.0.sender; brings = all.0.brings; stamp = (let first : x.stamp ≤ last = all.0.stamp in omega arith) },
  met_more senders last later xs p le all.1 one,
)

last_more : (last : ℕ) (ps : List Post) (p : Post) → last_with last (ps ++ p ∷ []) ≡ max (last_with last ps) p.stamp
last_more last [] p = refl
last_more last (x ∷ xs) p = last_more (max last x.stamp) xs p

pub fetched_more : (me : ℕ) (pass : Receiver) (log : Written) (queues : List (List Message)) (pass' : Receiver) (log' : Written) (queues' : List (List Message)) (post : Post) (pass'' : Receiver) (log'' : Written) (queues'' : List (List Message))
    → Fetched me pass log queues pass' log' queues'
    → Took pass' post pass''
    → Brings post
    → Pushed queues' queues'' me post.message
    → log'' ≡ record log' { last = max log'.last post.stamp }
    → Fetched me pass log queues pass'' log'' queues''
fetched_more me pass log queues pass' log' queues' post pass'' log'' queues'' f took brings pushed met =
    let last : log''.last ≡ max log'.last post.stamp = ap (λ (l : Written). l.last) met in
    let above : log'.last ≤ log''.last = subst (λ (n : ℕ). log'.last ≤ n) (sym last) (le-max_left log'.last post.stamp) in
    let before : log.last ≤ log'.last = f.later in
    record {
      posts = f.posts ++ post ∷ [];
      taken = took.0 ∙ ap (λ (p : Receiver). after_take p post) f.taken ∙ ap (λ (ps : List Post). let r : Receiver = record pass { taken = ps; missed = pass'.missed } in r) (append_assoc pass.taken f.posts (post ∷ []))
          ∙ ap (λ (n : ℕ). let r : Receiver = record pass { taken = pass.taken ++ (f.posts ++ post ∷ []); missed = n } in r) (sym (ap (λ (p : Receiver). p.missed) took.0));
      queued = pushed ∙ ap (with_last me (post.message ∷ [])) f.queued ∙ more_last me (messages_of f.posts) (post.message ∷ []) (queues_of queues)
          ∙ ap (λ (ms : List Message). with_last me ms (queues_of queues)) (sym (map-append message_of f.posts (post ∷ [])));
      log_is = met ∙ ap (λ (l : Written). record l { last = max log'.last post.stamp }) f.log_is ∙ ap (λ (n : ℕ). record log { last = n }) (sym last);
      last = last ∙ ap (λ (n : ℕ). max n post.stamp) f.last ∙ sym (last_more log.last f.posts post);
      later = omega arith;
      met = met_more pass.senders log'.last log''.last f.posts post above f.met (record {
        sender = subst (λ (p : Receiver). post.message.sender < p.senders) f.taken took.1;
        brings = brings;
        stamp = subst (λ (n : ℕ). post.stamp ≤ n) (sym last) (le-max_right log'.last post.stamp);
      });
    }

-- ---- the end of a fetch

-- a take that found the ring empty leaves all but its count
pub fetched_end : (me : ℕ) (pass : Receiver) (log : Written) (queues : List (List Message)) (pass' : Receiver) (log' : Written) (queues' : List (List Message)) (pass'' : Receiver)
    → Fetched me pass log queues pass' log' queues' → pass'' ≡ after_miss pass' → Fetched me pass log queues pass'' log' queues'
fetched_end me pass log queues pass' log' queues' pass'' f miss = record {
  posts = f.posts;
  taken = miss ∙ ap after_miss f.taken ∙ ap (λ (n : ℕ). let r : Receiver = record pass { taken = pass.taken ++ f.posts; missed = n } in r) (sym (ap (λ (p : Receiver). p.missed) miss));
  queued = f.queued;
  log_is = f.log_is;
  last = f.last;
  later = f.later;
  met = f.met;
}

pub fetched_all : (me : ℕ) (pass pass' pass'' : Receiver) (queues : List (List Message))
    → pass'.missed ≡ pass.missed → pass'' ≡ after_miss pass' → WasEmpty pass' → HasFetchedAll me pass pass'' queues
fetched_all me pass pass' pass'' queues none miss empty = inr (ap (λ (p : Receiver). p.missed) miss ∙ ap one_further none, subst WasEmpty (sym miss) empty)

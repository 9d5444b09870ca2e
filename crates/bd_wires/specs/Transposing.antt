-- Threads that exchange their passes for sending: what one has for another, with what that one has for it.
use Rattle.std.specs.Prelude.{◌≡◌, ◌≢◌, ℕ, ◌<◌, ◌≤◌, List, map, vec_len, Option, Some, None, slice_get}
use Rattle.bd_ring.specs.Rings.{Sender}
use Rattle.bd_wires.specs.declared.wires.Passes.{Passes}

abbrev pub send_of : Option Passes → ℕ → Option Sender
send_of None k = None
send_of (Some q) k = slice_get q.sends.items k

-- the pass that thread t has at place k
abbrev pub send_at : List Passes → ℕ → ℕ → Option Sender
send_at passes t k = send_of (slice_get passes t) k

-- each thread has this many
abbrev pub IsSquare : ℕ → List Passes → Type 0
IsSquare n passes = (t : ℕ) (q : Passes) → slice_get passes t ≡ Some q → vec_len q.sends ≡ n

-- all but the passes for sending is as before, and of these each thread has as many
pub record KeepsRest (passes passes' : List Passes) : Type 0 where
  pub takes : map (λ q. q.take) passes' ≡ map (λ q. q.take) passes
  pub slots : map (λ q. q.slot) passes' ≡ map (λ q. q.slot) passes
  pub many : map (λ q. vec_len q.sends) passes' ≡ map (λ q. vec_len q.sends) passes

-- two were exchanged
pub record Exchanged (s t : ℕ) (passes passes' : List Passes) : Type 0 where
  pub rest : KeepsRest passes passes'
  pub first : send_at passes' s t ≡ send_at passes t s
  pub second : send_at passes' t s ≡ send_at passes s t
  pub others : (a b : ℕ) → (a ≡ s → b ≢ t) → (a ≡ t → b ≢ s) → send_at passes' a b ≡ send_at passes a b

-- thread t exchanged with each thread below s
pub record RowExchanged (t s : ℕ) (passes passes' : List Passes) : Type 0 where
  pub rest : KeepsRest passes passes'
  pub row : (k : ℕ) → k < s → send_at passes' t k ≡ send_at passes k t
  pub column : (k : ℕ) → k < s → send_at passes' k t ≡ send_at passes t k
  pub others : (a b : ℕ) → (a ≡ t → s ≤ b) → (b ≡ t → s ≤ a) → send_at passes' a b ≡ send_at passes a b

-- the threads below t exchanged with each other
pub record TransposedTo (t : ℕ) (passes passes' : List Passes) : Type 0 where
  pub rest : KeepsRest passes passes'
  pub within : (a b : ℕ) → a < t → b < t → send_at passes' a b ≡ send_at passes b a
  pub others : (a b : ℕ) → (a < t → t ≤ b) → send_at passes' a b ≡ send_at passes a b

-- all threads exchanged with each other
pub record Transposed (passes passes' : List Passes) : Type 0 where
  pub rest : KeepsRest passes passes'
  pub all : (a b : ℕ) → send_at passes' a b ≡ send_at passes b a

-- The fields of a line: a key and a value, with a space before each.
use Rattle.std.specs.Prelude.{ℕ, ◌==◌, if◌then◌else◌, List, [], ◌++◌, codes, decimal, flat_map, Option, None, Some}
use Rattle.std.specs.Int.{bit_at}
use Rattle.std.specs.List.{range_with_len}
use Rattle.hex.specs.Hex.{encode_lower}
use Rattle.bd_base.specs.declared.id.DevId.{DevId}
use Rattle.bd_base.specs.declared.id.HandleId.{HandleId}
use Rattle.bd_base.specs.declared.id.ReqId.{ReqId}
use Rattle.bd_base.specs.declared.id.ThreadId.{ThreadId}

-- a key with a word as its value
unfoldable pub word_field : List ℕ → List ℕ → List ℕ
word_field key word = codes " " ++ key ++ codes " " ++ word

-- a number
unfoldable pub number_field : List ℕ → ℕ → List ℕ
number_field key number = word_field key (decimal number)

-- what a thread numbers itself: the thread and its number, with a full stop between
unfoldable pub own_field : List ℕ → ℕ → ℕ → List ℕ
own_field key thread number = word_field key (decimal thread ++ codes "." ++ decimal number)

-- a request under this key
unfoldable pub request_field : List ℕ → ReqId → List ℕ
request_field key req = own_field key req.thread req.seq

-- a device under this key
unfoldable pub device_field : List ℕ → DevId → List ℕ
device_field key dev = number_field key dev.0

-- a device under this key, if there is one
unfoldable pub device_field_if : List ℕ → Option DevId → List ℕ
device_field_if key None = []
device_field_if key (Some dev) = device_field key dev

-- a number of blocks
unfoldable pub blocks_field : ℕ → List ℕ
blocks_field blocks = number_field (codes "blocks") blocks

-- a handle under this key
unfoldable pub handle_field : List ℕ → HandleId → List ℕ
handle_field key handle = number_field key handle.0

-- a handle under this key, if there is one
unfoldable pub handle_field_if : List ℕ → Option HandleId → List ℕ
handle_field_if key None = []
handle_field_if key (Some handle) = handle_field key handle

-- a thread, if the set with these bits has it
unfoldable pub thread_field_if : ℕ → ℕ → List ℕ
thread_field_if bits thread = if bit_at bits thread == 1 then number_field (codes "thread") thread else []

-- each thread of a set, by rising number
unfoldable pub thread_fields : ℕ → List ℕ
thread_fields bits = flat_map (thread_field_if bits) (range_with_len 0 16)

-- a handle with its thread
unfoldable pub owned_fields : HandleId × ThreadId → List ℕ
owned_fields owned = handle_field (codes "handle") owned.0 ++ number_field (codes "owner") owned.1.0

-- bytes in lower-case hexadecimal
unfoldable pub hex_field : List ℕ → List ℕ → List ℕ
hex_field key bytes = word_field key (encode_lower bytes)

-- a digest, if there is one
unfoldable pub digest_field_if : Option (List ℕ) → List ℕ
digest_field_if None = []
digest_field_if (Some digest) = hex_field (codes "sha256") digest

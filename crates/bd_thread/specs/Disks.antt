-- Which piece the disk of an aio device serves next.
use Rattle.std.specs.Prelude.{◌≡◌, find, Option, None, option_and_then}
use Rattle.bd_base.specs.declared.id.DevId.{DevId}
use Rattle.bd_steps.specs.Serving.{next_on_disk}
use Rattle.bd_machine.specs.declared.state.Id.{Id}
use Rattle.bd_machine.specs.declared.state.OpenPiece.{OpenPiece}
use Rattle.bd_machine.specs.Homes.{is_base}
use Rattle.bd_machine.specs.Kept.{as_piece}
use Rattle.bd_tokens.specs.Tokens.{here_in}
use Rattle.bd_thread.specs.declared.links.Links.{Links}
use Rattle.bd_thread.specs.declared.thread.Thread.{Thread}

-- the piece that the disk of an aio device serves next, by its id
abbrev pub disk_due : Thread → DevId → Option Id
disk_due t dev = next_on_disk t.setup.now t.me (here_in t.held.items) dev (find (is_base dev) t.part.bases)

-- the piece itself
abbrev pub piece_on_disk : Thread → DevId → Option OpenPiece
piece_on_disk t dev = option_and_then (λ id. as_piece (here_in t.held.items id)) (disk_due t dev)

-- no piece waits for the disk of a device
abbrev pub NoPieceOnDisk : DevId → Thread → Links → Type 0
NoPieceOnDisk dev t links = disk_due t dev ≡ None

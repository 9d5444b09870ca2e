use Rattle.std.proofs.Common.{◌≡◌, List, Some, None, sym, ◌∙◌, ap}
use Rattle.std.specs.List.{position}
use Rattle.bd_range.specs.Locks.{is_piece, LockRows, without_held}
use Rattle.bd_range.specs.declared.piece.HeldPiece.{HeldPiece}
use Rattle.bd_range.proofs.Held.{none_taken, taken_at}
use Rattle.bd_range.proofs.locks.Locks.admit.Goals as goal

pub returns-in-Some : goal.returns-in-Some
returns-in-Some c =
    let is = is_piece c.args.req c.args.k in
    let held = c.self.inside.held in
    let found : position is held ≡ Some c.in-Some.place = ap (position is) (sym c.as_slice.ensures) ∙ sym c.place_of.ensures ∙ c.in-Some.is in
    let with_held : List HeldPiece → LockRows = λ ps. record { locks = c.self.inside.locks.entries; held = ps } in
    ap with_held (c.remove.ensures.rest ∙ taken_at is held c.in-Some.place found) ∙ ap (λ (s : LockRows). without_held s c.args.req c.args.k) c.self.view_is

pub returns-in_default : goal.returns-in_default
returns-in_default c =
    let is = is_piece c.args.req c.args.k in
    let held = c.self.inside.held in
    let none : position is held ≡ None = ap (position is) (sym c.as_slice.ensures) ∙ sym c.place_of.ensures ∙ c.in_default.is in
    let with_held : List HeldPiece → LockRows = λ ps. record { locks = c.self.inside.locks.entries; held = ps } in
    sym c.self.view_is ∙ ap with_held (none_taken is held none) ∙ ap (λ (s : LockRows). without_held s c.args.req c.args.k) c.self.view_is

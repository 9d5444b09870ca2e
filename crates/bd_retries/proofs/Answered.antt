-- What follows where a call answered Ok.
use Rattle.std.proofs.Common.{Result, Ok, Err, OnOk}

pub on_ok : {T E A B : Type 0} (r : Result T E) → (A → B) → OnOk r A → OnOk r B
on_ok (Ok x) f a = f a
on_ok (Err e) f a = tt

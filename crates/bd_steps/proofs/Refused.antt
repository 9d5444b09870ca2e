-- A test by which nothing is refused.
use Rattle.std.proofs.Common.{◌≡◌, Bool, true, false, not, Option, Some, None, is_none, is_some, refl}

pub none_by : {X : Type 0} (r : Bool) (o : Option X) → not r ≡ is_some o → r ≡ is_none o
none_by true None h = refl
none_by true (Some x) h = cc
none_by false None h = cc
none_by false (Some x) h = refl

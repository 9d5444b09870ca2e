use Rattle.std.proofs.Common.{◌∙◌, ap, Some}
use Rattle.std.specs.Prelude.{map}
use Rattle.serde_json.specs.View.{view}
use Rattle.bd_config.proofs.ShapeLemmas.{elements_of_list}
use Rattle.bd_config.proofs.shape.elements.Goals as goal

pub returns : goal.returns
returns c = ap (λ items. Some (map view items)) c.as_slice.ensures.value ∙ elements_of_list _ c.in_ok-as_array.field-0.now.items c.in_ok-as_array.ensures

use Rattle.serde_json.specs.View.{view}
use Rattle.bd_config.specs.Config.{IsJson}
use Rattle.bd_config.proofs.Exact.{reads_what_is_asked}
use Rattle.bd_config.proofs.config.read_config.Goals as goal

pub returns-clause-reads : goal.returns-clause-reads
returns-clause-reads c = λ asked config.
    let json : IsJson c.args.bytes.now (view c.in-Ok.value) = record { utf8 = c.in-Ok.ensures.ok.0; reads = c.in-Ok.ensures.ok.1 } in
    reads_what_is_asked (λ v. v.items) c.args.bytes.now c.read_value.result (view c.in-Ok.value) json c.read_value.ensures.ok c.read_value.ensures.text c.read_value.ensures.shape c.read_value.ensures.method asked config

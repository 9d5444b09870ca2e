use Rattle.std.proofs.Common.{sym}
use Rattle.bd_pages.proofs.Ranges.{seen_length}
use Rattle.bd_pages.proofs.pages.Pages.len.Goals as goal

pub returns : goal.returns
returns c = sym (seen_length c.self.inside.size c.self.inside.count c.self.inside.pages.items c.args.self.now c.self.view_is)

use Rattle.std.proofs.Common.{◌≡◌, ◌<◌, Some, None, sym, ◌∙◌, arith}
use Rattle.bd_thin_map.specs.Map.{first_free, look, users_of}
use Rattle.bd_thin_map.proofs.Taken.{copy_is, free_is, fresh_is, users_are}
use Rattle.bd_thin_map.proofs.map.ThinMap.prepare.Goals as goal

pub returns-in-Some-Some : goal.returns-in-Some-Some
returns-in-Some-Some c =
    let free : c.first_free-free.result ≡ first_free c.args.self.now = c.first_free-free.ensures ∙ free_is c.self.inside.users c.self.inside.rows.items c.args.self.now c.self.view_is c.self.invariant in
    let some : look c.args.self.now c.args.dev c.args.place ≡ Some c.in-Some-default.from = sym c.look.ensures ∙ c.in-Some-default.is-0 in
    let users = users_are c.self.inside.users c.self.inside.rows.items c.args.self.now c.self.view_is c.self.invariant c.in-Some-default.from in
    let more : 1 < users_of c.args.self.now.rows c.in-Some-default.from = omega (arith, users, c.of.ensures, c.if-of-le1.false) in
    copy_is c.args.self.now c.args.dev c.args.place c.in-Some-default.from (Some c.in-Some-Some.to) some (sym c.in-Some-Some.is-1 ∙ free) more

pub returns-in-None-Some : goal.returns-in-None-Some
returns-in-None-Some c =
    let free : c.first_free-free.result ≡ first_free c.args.self.now = c.first_free-free.ensures ∙ free_is c.self.inside.users c.self.inside.rows.items c.args.self.now c.self.view_is c.self.invariant in
    let none : look c.args.self.now c.args.dev c.args.place ≡ None = sym c.look.ensures ∙ c.in-None-Some.is-0 in
    fresh_is c.args.self.now c.args.dev c.args.place (Some c.in-None-Some.to) none (sym c.in-None-Some.is-1 ∙ free)

pub returns-in_default-None : goal.returns-in_default-None
returns-in_default-None c =
    let free : c.first_free-free.result ≡ first_free c.args.self.now = c.first_free-free.ensures ∙ free_is c.self.inside.users c.self.inside.rows.items c.args.self.now c.self.view_is c.self.invariant in
    let some : look c.args.self.now c.args.dev c.args.place ≡ Some c.in-Some-default.from = sym c.look.ensures ∙ c.in-Some-default.is-0 in
    let users = users_are c.self.inside.users c.self.inside.rows.items c.args.self.now c.self.view_is c.self.invariant c.in-Some-default.from in
    let more : 1 < users_of c.args.self.now.rows c.in-Some-default.from = omega (arith, users, c.of.ensures, c.if-of-le1.false) in
    copy_is c.args.self.now c.args.dev c.args.place c.in-Some-default.from None some (sym c.in_default-None.is-1 ∙ free) more

pub returns-in_default-None-2 : goal.returns-in_default-None-2
returns-in_default-None-2 c =
    let free : c.first_free-free.result ≡ first_free c.args.self.now = c.first_free-free.ensures ∙ free_is c.self.inside.users c.self.inside.rows.items c.args.self.now c.self.view_is c.self.invariant in
    let none : look c.args.self.now c.args.dev c.args.place ≡ None = sym c.look.ensures ∙ c.in_default-None.is-0 in
    fresh_is c.args.self.now c.args.dev c.args.place None none (sym c.in_default-None.is-1 ∙ free)

use Rattle.std.proofs.Common.{rules, ◌≡◌, ◌≢◌, sym, subst, ℕ, Bool, false, List, Option, Some}
use Rattle.rs_wire.specs.declared.words.Kind.{Kind}
use Rattle.rs_wire.specs.declared.words.Kind.TheVariants as kind
use Rattle.rs_wire.specs.declared.settings.Settings.{Settings}
use Rattle.tape.specs.declared.entry.Entry.{Entry}
use Rattle.conn_shared.specs.Members.{Knowledge}
use Rattle.client.specs.Takes.{SentSo, TakesFor}
use Rattle.client.proofs.Alone.{IsSame, own_lawful}
use Rattle.client.proofs.OverEnds.{if_ok, taken_for, taken_unsent}
use Rattle.client.proofs.client.Client.take_all.Goals as goal

pub returns-then-ne-clause-taken : goal.returns-then-ne-clause-taken
returns-then-ne-clause-taken g c =
    let was : Knowledge = c.args.self.now.caller in
    let now : Knowledge = c.take_on.new.self.caller in
    let same : IsSame was now = search rules in
    let st : Settings = was.of.settings in
    let plain : c.args.plan.now.kind ≢ kind.Fnf = search rules in
    if_ok c.take_on.result (λ ended h own. (let t = h own in (
      t.0,
      λ link drawn.
          subst (λ (o : Option ℕ). TakesFor ended c.args.plan.now.kind c.args.plan.now.initial st link c.args.self.now.conn o was.front now.front c.args.calling.now.fresh c.take_on.new.calling.fresh c.args.out.now.items c.take_on.new.out.items) (sym c.in-Some.is)
          (taken_for ended c.args.plan.now.kind c.args.plan.now.initial c.in-Some.stream st link c.args.self.now.conn was.front now.front c.args.calling.now.fresh c.take_on.new.calling.fresh c.args.out.now.items c.take_on.new.out.items plain (own_lawful was now same own) t.1),
    ))) c.take_on.ensures.takes

pub returns-then-not-is_sent-clause-taken : goal.returns-then-not-is_sent-clause-taken
returns-then-not-is_sent-clause-taken g c own =
    let was : Knowledge = c.args.self.now.caller in
    let now : Knowledge = c.is_sent.new.self.caller in
    let st : Settings = was.of.settings in
    let fnf : c.args.plan.now.kind ≡ kind.Fnf = search rules in
    let off : c.is_sent.result ≡ false = search rules in
    let l = c.is_sent.ensures.looked own in (
      l.0,
      λ link drawn.
          subst (λ (k : Kind). TakesFor false k c.args.plan.now.initial st link c.args.self.now.conn c.args.calling.now.stream was.front now.front c.args.calling.now.fresh c.args.calling.now.fresh c.args.out.now.items c.args.out.now.items) (sym fnf)
          (subst (λ (o : Option ℕ). TakesFor false kind.Fnf c.args.plan.now.initial st link c.args.self.now.conn o was.front now.front c.args.calling.now.fresh c.args.calling.now.fresh c.args.out.now.items c.args.out.now.items) (sym c.in-Some.is)
          (subst (λ (e : List Entry). TakesFor false kind.Fnf c.args.plan.now.initial st link c.args.self.now.conn (Some c.in-Some.stream) was.front e c.args.calling.now.fresh c.args.calling.now.fresh c.args.out.now.items c.args.out.now.items) (sym l.1)
          (taken_unsent c.args.plan.now.initial st link c.args.self.now.conn was.front c.in-Some.stream c.args.calling.now.fresh c.args.out.now.items (subst (λ (b : Bool). SentSo b st was.front link c.args.self.now.conn) off (l.2 link drawn))))),
    )

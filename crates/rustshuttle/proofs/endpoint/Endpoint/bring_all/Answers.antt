use Rattle.std.proofs.Common.{◌∙◌, ap, refl, sym, subst, List, [], ◌∷◌, ◌++◌}
use Rattle.tape.specs.declared.answer.Answer.{Answer}
use Rattle.session_core.specs.Seen.{Seen}
use Rattle.rustshuttle.specs.Ends.{Brings, HasAppended}
use Rattle.rustshuttle.proofs.Bringing.{appended_more, appended_none}
use Rattle.rustshuttle.proofs.endpoint.Endpoint.bring_all.Goals as goal

pub loop-self-init : goal.loop-self-init
loop-self-init g c = (appended_none _ _, refl)

pub loop-self-preserved : goal.loop-self-preserved
loop-self-preserved g c =
    let last : List Answer = c.in-Some.answer ∷ [] in
    let brought = subst (λ a. Brings a c.loop-self.self c.bring_next.new.self) c.in-Some.is c.in_ok-answer.ensures.brought in
    let more = appended_more c.args.answers.now.items c.loop-self.answers.items c.in-Some.answer c.args.self.now c.loop-self.self c.bring_next.new.self c.loop-self.invariant.0 brought in
    (subst (λ answers. HasAppended c.args.answers.now.items answers c.args.self.now c.bring_next.new.self) (sym (c.push_reserved.ensures.items ∙ ap (λ (l : List Answer). l ++ last) c.reserve.ensures.items)) more, ap (λ (s : Seen). s.settings) brought.answered.after ∙ c.loop-self.invariant.1)

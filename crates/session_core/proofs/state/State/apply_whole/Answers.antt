use Rattle.std.proofs.Common.{rules}
use Rattle.tape.specs.declared.answer.Answer.TheVariants as answer
use Rattle.session_core.proofs.Alone.{after_alone}
use Rattle.session_core.proofs.Messages.{LetGo}
use Rattle.session_core.proofs.state.State.apply_whole.Goals as goal

pub returns : goal.returns
returns c =
    let old = c.args.self.now in
    let e = c.args.event in
    let streams = c.arrive.new.streams in
    let gone : LetGo streams.limits.max_streams streams.marks answer.Handled e old.parts c.let_go_on.new.parts = record {
      heard = c.let_go_on.ensures.heard;
      over = search rules;
      others = search rules;
    } in
    after_alone c.args.settings.now old e c.count_came.new.handled c.came.new.self streams c.let_go_on.new.parts c.requires.alone c.requires.means c.requires.heard (search rules) (search rules) (search rules) (search rules) gone

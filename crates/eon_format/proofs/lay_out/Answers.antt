-- What was measured decides, and what was written is the layout.
use Rattle.std.proofs.Common.{sym, ap, ◌∙◌, rules}
use Rattle.eon_spec.specs.Layout.{format, settings_of}
use Rattle.eon_spec.specs.Refused.{refusal_of}
use Rattle.eon_spec.specs.Calls.{after, refused_with}
use Rattle.eon_format.proofs.Answered.{filled, full}
use Rattle.eon_format.proofs.lay_out.Goals as goal

pub returns-in_default : goal.returns-in_default
returns-in_default c t h = let b = format (settings_of c.args.layout.options.now) t in
    ap (λ r. after (refused_with (refusal_of r)) c.args.out.now) c.new.ensures ∙ full c.args.out.now b (sym (c.format.ensures t h) ∙ c.in_default.is)

pub returns : goal.returns
returns c t h = let b = format (settings_of c.args.layout.options.now) t in
    let m = sym (c.format.ensures t h) ∙ c.in-Some.is in
    let w = (c.write.ensures.written t h).written in
    filled c.args.out.now b c.in-Some.left m _ (search (rules, w))

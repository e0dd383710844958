-- A turn puts one indentation more, and empty ones are none.
use Rattle.std.proofs.Common.{rules, List, ℕ, ◌≡◌, [], sym, subst}
use Rattle.eon_spec.specs.Layout.{settings_of, add_indent, text_of}
use Rattle.eon_put.proofs.Indents.{indent_more, indents_none}
use Rattle.eon_put.proofs.add_indent.Goals as goal

pub loop-preserved : goal.loop-preserved
loop-preserved g c = let o = settings_of c.args.options.now in
    let n = c.loop.counter in
    subst
    (λ (b : List ℕ). g.S.Sink.puts c.args.sink.now b c.put_text.new.sink)
    (indent_more o n)
    (g.met.S.Sink.append c.args.sink.now c.loop.sink c.put_text.new.sink (add_indent o n) (text_of c.args.options.now.indentation) c.loop.invariant (subst (λ (b : List ℕ). g.S.Sink.puts c.loop.sink b c.put_text.new.sink) c.text-text.ensures c.put_text.ensures))

pub returns-then-is_empty : goal.returns-then-is_empty
returns-then-is_empty g c = let o = settings_of c.args.options.now in
    let none : o.indentation ≡ [] = search rules in
    subst (λ (b : List ℕ). g.S.Sink.puts c.args.sink.now b c.args.sink.now) (sym (indents_none o c.args.n none)) (g.met.S.Sink.nothing c.args.sink.now)

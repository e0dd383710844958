use Rattle.std.proofs.Common.{rules, ◌≡◌, ◌<◌, length, get_or, true, nat_lt, arith}
use Rattle.eon_unescape.proofs.Kept.{ascii_starts, tail_whole, kept_more, formed_step, shorter, tail_step, rest_bytes}
use Rattle.eon_utf8.specs.Post.{StartsWith}
use Rattle.eon_utf8.specs.declared.Char.{Char}
use Rattle.eon_unescape.proofs.next_kept.Goals as goal

pub returns-in-len1-up : goal.returns-in-len1-up
returns-in-len1-up c =
    let s = c.args.text.now in
    let x : Char = record { code = c.from.result; len = 1 } in
    let some : 0 < length s = search rules in
    let is : c.from.result ≡ get_or s 0 0 = search rules in
    let low : nat_lt c.from.result 0x80 ≡ true = search rules in
    let h : StartsWith s x = ascii_starts s c.from.result some is low in
    record {
      behind = tail_step s x h s (tail_whole s) (omega arith);
      is = kept_more s x h (search rules);
      shorter = shorter s x h;
      formed = formed_step s x h;
      bytes = rest_bytes s x h;
    }

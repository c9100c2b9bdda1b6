use native.Mathlib.Omega.{arith}
use lib.ListN.{length, take, set}
use mathlib.Core.Path.{◌≡◌, ◌∙◌, ap}
use Prim.Native.Nat.{◌+◌}
use Rattle.pages.proofs.Texts.{no_room_in, no_place_in, moved_in}
use borrow.Author.Rules.{rules}
use Rattle.pages.proofs.Page.insert.Goals as goal

pub returns-then-len-ge256 : goal.returns-then-len-ge256
returns-then-len-ge256 c = let s = c.args.self in let w : length s.bytes ≡ 256 = search rules in record { short = search rules; text = no_room_in s.bytes s.len _ _ w c.requires c.if-len-ge256.true }

pub returns-then-len-at : goal.returns-then-len-at
returns-then-len-at c = let s = c.args.self in let w : length s.bytes ≡ 256 = search rules in record { short = search rules; text = no_place_in s.bytes s.len _ _ w c.requires (omega (arith, c.if-len-ge256.false)) c.if-len-at.true }

pub returns : goal.returns
returns c =
    let s = c.args.self in
    let w : length s.bytes ≡ 256 = search rules in
    record {
      short = search rules;
      text = ap (λ z. take (s.len + 1) (set z c.args.at c.args.b)) c.copy_within.ensures.after ∙ moved_in s.bytes s.len _ _ w c.requires c.if-len-ge256.false c.if-len-at.false;
    }

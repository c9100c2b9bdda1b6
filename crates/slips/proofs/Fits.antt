-- The numbers of a slip are small. Assumes nothing.
use mathlib.Core.Path.{◌≡◌, refl, sym, subst}
use mathlib.Core.Bool.{Bool, true, false, cond}
use Prim.Native.Nat.{ℕ}
use native.Mathlib.Omega.{arith}
use lib.Dec.{eqb}
use Rattle.notation.specs.Tokens.{TextToken, nonterminal, value, attribute, name, start_tag, end_tag, empty_tag, string, word, sign, Sign, DEFINED, ASSIGNED, OPEN, CLOSE, BRACE, UNBRACE, DOT, BAR, STAR, SEMICOLON, EQUALS}
use Rattle.slips.specs.declared.Slip.{Slip}
use Rattle.slips.specs.Slips.{begun, tagging, fronting, backing, SlipFits, FitsTurn}
use Rattle.slips.proofs.Turns.{word_quiet, mark_quiet}

either : (b : Bool) (x y : Slip) → SlipFits x → SlipFits y → SlipFits (cond b x y)
either true x y h k = h
either false x y h k = k

pub fits_turn : FitsTurn
fits_turn r s here (nonterminal n) place o h p k =
    either (eqb here 7) _ _ k
    (either (eqb here 0) _ _
    (record { start_small = omega (arith, h); nonterm_small = omega (arith, h); tag_small = k.tag_small; front_small = omega arith; back_small = omega arith })
    (record { start_small = k.start_small; nonterm_small = omega (arith, h); tag_small = k.tag_small; front_small = omega arith; back_small = omega arith }))
fits_turn r s here (value v) place o h p k = k
fits_turn r s here (attribute m n) place o h p k = subst SlipFits (sym (mark_quiet o here place n m)) k
fits_turn r s here (name n) place o h p k =
    record { start_small = k.start_small; nonterm_small = k.nonterm_small; tag_small = omega (arith, p.small); front_small = k.front_small; back_small = k.back_small }
fits_turn r s here (start_tag n) place o h p k = k
fits_turn r s here (end_tag n) place o h p k = k
fits_turn r s here (empty_tag n) place o h p k = k
fits_turn r s here (string cs) place o h p k = k
fits_turn r s here (word w) place o h p k = subst SlipFits (sym (word_quiet o here place w)) k
fits_turn r s here (sign DEFINED) place o h p k = k
fits_turn r s here (sign ASSIGNED) place o h p k = k
fits_turn r s here (sign OPEN) place o h p k = k
fits_turn r s here (sign CLOSE) place o h p k = k
fits_turn r s here (sign BRACE) place o h p k = k
fits_turn r s here (sign UNBRACE) place o h p k =
    either (eqb here 4) _ _
    (record { start_small = k.start_small; nonterm_small = k.nonterm_small; tag_small = k.tag_small; front_small = omega (arith, p.small); back_small = k.back_small })
    (either (eqb here 9) _ _
    (record { start_small = k.start_small; nonterm_small = k.nonterm_small; tag_small = k.tag_small; front_small = k.front_small; back_small = omega (arith, p.small) }) k)
fits_turn r s here (sign DOT) place o h p k = k
fits_turn r s here (sign BAR) place o h p k = k
fits_turn r s here (sign STAR) place o h p k = k
fits_turn r s here (sign SEMICOLON) place o h p k = k
fits_turn r s here (sign EQUALS) place o h p k = k

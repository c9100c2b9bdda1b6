use native.Mathlib.Omega.{arith}
use mathlib.Core.Path.{refl}
use mathlib.Core.List.{[], ◌∷◌}
use Rattle.notation.specs.Tokens.{plain, left, right}
use Rattle.lexemes.proofs.Found.{nonterminal_read, value_read, attribute_read, name_read, start_read, end_read, empty_read, string_read}
use borrow.Author.Rules.{rules}
use Rattle.lexemes.proofs.varied.Goals as goal

-- src/lib.rt:11:14
pub numbered-requires : goal.numbered-requires
numbered-requires c = omega arith

-- src/lib.rt:12:14
pub numbered-requires-in-1 : goal.numbered-requires-in-1
numbered-requires-in-1 c = omega arith

-- src/lib.rt:13:14
pub numbered-requires-in-2 : goal.numbered-requires-in-2
numbered-requires-in-2 c = omega arith

-- src/lib.rt:14:14
pub numbered-requires-in-3 : goal.numbered-requires-in-3
numbered-requires-in-3 c = omega arith

-- src/lib.rt:15:14
pub numbered-requires-in-4 : goal.numbered-requires-in-4
numbered-requires-in-4 c = omega arith

-- src/lib.rt:16:14
-- src/lib.rt:17:14
pub tag-requires : goal.tag-requires
tag-requires c = (omega arith, refl)

-- src/lib.rt:18:14
pub tag-requires-in-7 : goal.tag-requires-in-7
tag-requires-in-7 c = (omega arith, refl)

-- src/lib.rt:19:14
pub tag-requires-in-8 : goal.tag-requires-in-8
tag-requires-in-8 c = (omega arith, refl)

-- src/lib.rt:20:14
-- src/lib.rt:6:1
pub returns-in-0 : goal.returns-in-0
returns-in-0 c = nonterminal_read c.args.k c.args.x.now c.numbered.result c.in-0.is c.numbered.ensures

-- src/lib.rt:6:1
pub returns-in-1 : goal.returns-in-1
returns-in-1 c = value_read c.args.k c.args.x.now c.numbered-in-1.result c.in-1.is c.numbered-in-1.ensures

-- src/lib.rt:6:1
pub returns-in-2 : goal.returns-in-2
returns-in-2 c = attribute_read plain (36 ∷ 46 ∷ 97 ∷ []) c.args.k c.args.x.now c.numbered-in-2.result c.in-2.is (λ n. refl) c.numbered-in-2.ensures

-- src/lib.rt:6:1
pub returns-in-3 : goal.returns-in-3
returns-in-3 c = attribute_read left (36 ∷ 91 ∷ 46 ∷ 97 ∷ []) c.args.k c.args.x.now c.numbered-in-3.result c.in-3.is (λ n. refl) c.numbered-in-3.ensures

-- src/lib.rt:6:1
pub returns-in-4 : goal.returns-in-4
returns-in-4 c = attribute_read right (36 ∷ 93 ∷ 46 ∷ 97 ∷ []) c.args.k c.args.x.now c.numbered-in-4.result c.in-4.is (λ n. refl) c.numbered-in-4.ensures

-- src/lib.rt:6:1
pub returns-in-5 : goal.returns-in-5
returns-in-5 c = name_read c.args.k c.args.x.now c.name.result c.in-5.is c.name.ensures

-- src/lib.rt:6:1
pub returns-in-6 : goal.returns-in-6
returns-in-6 c = start_read c.args.k c.args.x.now c.tag.result c.in-6.is c.tag.ensures

-- src/lib.rt:6:1
pub returns-in-7 : goal.returns-in-7
returns-in-7 c = end_read c.args.k c.args.x.now c.tag-in-7.result c.in-7.is c.tag-in-7.ensures

-- src/lib.rt:6:1
pub returns-in-8 : goal.returns-in-8
returns-in-8 c = empty_read c.args.k c.args.x.now c.tag-in-8.result c.in-8.is c.tag-in-8.ensures

-- src/lib.rt:6:1
pub returns-in_default : goal.returns-in_default
returns-in_default c = string_read c.args.k c.args.x.now c.string.result (omega arith) c.string.ensures

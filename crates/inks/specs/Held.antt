-- The bytes of a program that an ink holds, and what it needs to go on. Assumes nothing.
use Rattle.std.specs.Prelude.{◌≡◌, ◌≤◌}
use Rattle.limits.specs.Limits.{longest_program}
use Rattle.strokes.specs.Strokes.{Inks, inks, most_stacked}
use Rattle.pages.specs.Pages.{page_text, stack_of}
use Rattle.inks.specs.declared.Ink.{Ink}

abbrev pub inks_in : Ink → Inks
inks_in i = inks (page_text i.page) i.mode i.target (stack_of i.marks) (stack_of i.ors) (stack_of i.ands)

-- no more bytes and no higher stacks than there is room for
pub record Trim (i : Ink) : Type 0 where
  pub short : i.page.len ≤ longest_program
  pub few_marks : i.marks.count ≤ most_stacked
  pub few_ors : i.ors.count ≤ most_stacked
  pub few_ands : i.ands.count ≤ most_stacked

pub record InkIs (s : Inks) (r : Ink) : Type 0 where
  pub trim : Trim r
  pub same : inks_in r ≡ s

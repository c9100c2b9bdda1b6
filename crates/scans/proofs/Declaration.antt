-- A byte in a declaration. Assumes nothing.
use Rattle.std.specs.Prelude.{Some, None}
use mathlib.Core.Path.{◌≡◌, refl, sym, ◌∙◌, ap, subst}
use mathlib.Core.Logic.{◌⊎◌, ◌↔◌, inl, inr}
use mathlib.Core.Bool.{Bool, true, false, cond, true≢false}
use mathlib.Core.Option.{some}
use mathlib.Core.List.Memᴰ
use mathlib.Core.List.{List, [], ◌∷◌, ◌++◌, append_assoc, Memᴰ}
use Prim.Native.Nat.{ℕ, suc, ◌≤◌, ◌<◌}
use native.Mathlib.Omega.{arith}
use lib.Dec.{ltb}
use lib.ListN.{length, take, length-append, length-take}
use borrow.Author.Tests.{ltb-true, ltb-false}
use Rattle.limits.specs.Limits.{nodes_at_most, deepest_tree}
use Rattle.notation.specs.Statements.{parentheses}
use Rattle.encoding.specs.Distinct.{place_of}
use Rattle.models.specs.Models.{Declaration}
use Rattle.models.specs.Expressions.{spec_nodes, spec_depth}
use Rattle.models.specs.Family.{mentioned, EachFewNodes}
use Rattle.models.specs.Names.{whole_names, own_name, inner_name}
use Rattle.models.specs.Reader.{Phase, opening, naming, named, contents, emptying, inside, hashing, mixing, barred, mixed_name, mixed_closed, wants, in_name, marking, after, group_closed, ended, to, over, step_phase, DtdProgress, outside, within, moved_by, step_declarations, finished_phase, finished_dtd}
use Rattle.models.specs.Promises.{DtdFits}
use Rattle.models.specs.Sheets.{declared_names}
use Rattle.models.proofs.Grows.{finished_some}
use Rattle.judging.specs.Standing.{StandsBehind, ContentMayBegin, NumberAt}
use Rattle.judging.proofs.Refused.{one_byte_on, refused_by_grammar, refused_by_nodes, refused_by_depth}
use Rattle.judging.proofs.Contents.{where_content_begins}
use Rattle.judging.proofs.Much.{too_much_there}
use Rattle.levels.specs.declared.ModelSize.{ModelSize}
use Rattle.stages.specs.declared.Fate.{Fate}
use Rattle.stages.specs.declared.Moved.{Moved}
use Rattle.stages.specs.declared.NameEnd.{NameEnd}
use Rattle.stages.specs.Headway.{station_of, HeadwayIs, ContentShown}
use Rattle.stages.specs.Steps.{FateAs, moves, completes, too_deep, ByteTakenAs, FewNodesIn, NameEndIs, none_ends, own_ends, inner_ends, NameEndAs, ByteStepIs, SizesAs}
use Rattle.strata.proofs.Promises.{headway_stays, step_has_room}
use Rattle.declaring.proofs.Sections.{one_declaration_more}
use Rattle.rosters.specs.Names.{declared_in, mentioned_in, names_ended, ending_at}
use Rattle.rosters.specs.Rosters.{RosterIs}
use Rattle.rosters.proofs.Grows.{names_grow, over_as_finished}
use Rattle.rosters.proofs.Stands.{names_stand}
use Rattle.entries.specs.Entries.{DeclarationsHeld}
use Rattle.entries.proofs.Entered.{laid_count}
use Rattle.dockets.specs.declared.Docket.{Docket}
use Rattle.dockets.specs.Kept.{NamesHeld, ElementIs, DeclarationsKept, within_bounds, passed_bounds}
use Rattle.dockets.specs.Noted.{end_long, Noting, NamesLast, NotedAs, NotedIs}
use Rattle.dockets.specs.Concluded.{Concluding, ConcludedIs}
use Rattle.scans.specs.declared.Scan.{Scan}
use Rattle.scans.specs.Scans.{limit_by, content_in, Rooms, ScanIs, between, amid, ReadUpTo, InText, ByteRead, onward, halted}
use Rattle.scans.proofs.Limits.{last_few, last_shallow, few_with, shallow_with, followed, scan}

abbrev Names : Type 0
Names = List (List ℕ)

not_both : {A : Type 0} {b : Bool} → b ≡ true → b ≡ false → A
not_both e f = absurd (true≢false (sym e ∙ f))

-- what is kept in a declaration
pub record AmidAt (text : List ℕ) (at : ℕ) (s : Scan) (nb ne tb te productions nodes : List ℕ) : Type 0 where
  pub ds : List Declaration
  pub q : Phase
  pub rows : Names
  pub tag_rows : Names
  pub stands : StandsBehind text at (within ds q)
  pub held : NamesHeld (mentioned ds ++ mentioned_in q) (declared_names ds ++ declared_in q) s.docket nb ne tb te rows tag_rows
  pub element : ElementIs s.docket rows tag_rows (declared_in q)
  pub headway : HeadwayIs (place_of rows) q s.headway
  pub kept : DeclarationsKept text ds s.docket productions nodes

pub amid_of : (text : List ℕ) (at : ℕ) (s : Scan) (nb ne tb te productions nodes : List ℕ) → s.out ≡ false → ReadUpTo text at s nb ne tb te productions nodes → AmidAt text at s nb ne tb te productions nodes
amid_of text at s nb ne tb te productions nodes o h = on h.state h.stands h.kept
  where
    on : (z : DtdProgress) → StandsBehind text at z → ScanIs text s nb ne tb te productions nodes z → AmidAt text at s nb ne tb te productions nodes
    on (outside ds) st (between rows tag_rows e i k) = not_both e o
    on (within ds q) st (amid rows tag_rows e i el hw k) = record { ds = ds; q = q; rows = rows; tag_rows = tag_rows; stands = st; held = i; element = el; headway = hw; kept = k }

-- a content is wanted at one station
station_contents : (q : Phase) → content_in (station_of q) ≡ true → (n : List ℕ) × (q ≡ contents n)
station_contents (opening rest) e = absurd (true≢false (sym e))
station_contents naming e = absurd (true≢false (sym e))
station_contents (named n) e = absurd (true≢false (sym e))
station_contents (contents n) e = (n, refl)
station_contents (emptying n rest) e = absurd (true≢false (sym e))
station_contents (inside n) e = absurd (true≢false (sym e))
station_contents (hashing n rest) e = absurd (true≢false (sym e))
station_contents (mixing n names) e = absurd (true≢false (sym e))
station_contents (barred n names) e = absurd (true≢false (sym e))
station_contents (mixed_name n names m) e = absurd (true≢false (sym e))
station_contents (mixed_closed n names) e = absurd (true≢false (sym e))
station_contents (wants n l ls) e = absurd (true≢false (sym e))
station_contents (in_name n m l ls) e = absurd (true≢false (sym e))
station_contents (marking n x l ls) e = absurd (true≢false (sym e))
station_contents (after n x l ls) e = absurd (true≢false (sym e))
station_contents (group_closed n x) e = absurd (true≢false (sym e))
station_contents (ended n c) e = absurd (true≢false (sym e))

contents_station : (ds es : List Declaration) (q : Phase) (n : List ℕ) → within ds q ≡ within es (contents n) → content_in (station_of q) ≡ true
contents_station ds es q n e = let z : q ≡ contents n = cc in ap (λ (x : Phase). content_in (station_of x)) z

-- the element's own name is mentioned
own_mentioned : (ds : List Declaration) (q : Phase) (n : List ℕ) → declared_in q ≡ n ∷ [] → Memᴰ n (mentioned ds ++ mentioned_in q)
own_mentioned ds q n e = Memᴰ.append_right (mentioned ds) (Memᴰ.append_left (whole_names q) (subst (Memᴰ n) (sym e) (Memᴰ.head refl)))

module _ (text : List ℕ) (at b : ℕ) (s : Scan) (nb ne tb te productions nodes : List ℕ) (i : InText text at b s nb ne tb te productions nodes) (o : s.out ≡ false) where
  here : AmidAt text at s nb ne tb te productions nodes
  here = amid_of text at s nb ne tb te productions nodes o i.up_to_lem

  few_here : FewNodesIn here.q
  few_here = last_few here.ds (finished_phase here.q) here.stands.fits.few

  names_here : NamesLast here.q (take at text)
  names_here n z = names_stand (take at text) here.ds here.q n here.stands.walked z

  short_end : (n : List ℕ) (k : ℕ) → (own_name here.q ≡ some n) ⊎ (inner_name here.q ≡ some n) → k ≡ length n → k ≤ at
  short_end n k z e = let l = (names_here n z).last in omega (arith, ap length l.is, length-append l.before n, length-take at text, e)

  end_low : (end : NameEnd) → NameEndIs here.q b end → end_long end ≤ at
  end_low NameEnd.Nothing (none_ends z) = omega arith
  end_low (NameEnd.Own k) (own_ends n e f l) = short_end n k (inl e) l
  end_low (NameEnd.Inner k) (inner_ends n e f l) = short_end n k (inr e) l

  module _ (end : NameEnd) (z : NameEndAs s.headway b end) where
    pub may_note : Noting text at end s.docket nb ne tb te
    may_note = record {
      low = end_low end (z.is (place_of here.rows) here.q here.headway);
      high = i.up_to_lem.inside;
      names_enrol = record { sized = i.up_to_lem.rooms.name_room; has_rows = record { rows = here.rows; are = here.held.names_are.held } };
      tags_enrol = record { sized = i.up_to_lem.rooms.tag_room; has_rows = record { rows = here.tag_rows; are = here.held.tags_are.held } };
      small = i.up_to_lem.small;
    }

    module _ (k : Docket) (nb' ne' tb' te' : List ℕ) (f : NotedIs text at end s.docket nb ne tb te nb' ne' tb' te' k) where
      noted : NotedAs (mentioned here.ds ++ mentioned_in here.q) (declared_names here.ds ++ declared_in here.q) here.rows here.tag_rows here.q b s.docket k nb' ne' tb' te'
      noted = f.is _ _ here.rows here.tag_rows here.q b here.held (z.is (place_of here.rows) here.q here.headway) names_here

      headway_now : HeadwayIs (place_of noted.rows_now) here.q s.headway
      headway_now =
          headway_stays (place_of here.rows) (place_of noted.rows_now) here.q s.headway
          (λ y m. sym (noted.stay y (Memᴰ.append_right (mentioned here.ds) (Memᴰ.append_right (declared_in here.q) m)))) here.headway

      element_now : ElementIs k noted.rows_now noted.tag_rows_now (declared_in here.q ++ names_ended (own_name here.q) b)
      element_now = noted.element_is (declared_in here.q) here.element (own_mentioned here.ds here.q)

      kept_now : DeclarationsKept text here.ds k productions nodes
      kept_now = on here.kept
        where
          on : DeclarationsKept text here.ds s.docket productions nodes → DeclarationsKept text here.ds k productions nodes
          on (within_bounds g h l) = within_bounds (f.passed_same ∙ g) h (subst (λ t. DeclarationsHeld here.ds t productions nodes) (sym f.tally_same) l)
          on (passed_bounds byte g h l) = passed_bounds byte (f.passed_same ∙ g) h l

      pub rooms_now : Rooms nb' ne' tb' te' productions nodes
      rooms_now = record { name_room = f.name_room; tag_room = f.tag_room; section_room = i.up_to_lem.rooms.section_room }

      module _ (m : Moved) (st : ByteStepIs s.headway b k.names.number m) where
        taken : ByteTakenAs (place_of noted.rows_now) here.q b m
        taken = st.is (place_of noted.rows_now) here.q headway_now few_here noted.inner_is

        taken_as : (g : Fate) → m.fate ≡ g → FateAs (place_of noted.rows_now) (λ p. step_phase p here.q b) (finished_phase here.q) g m.headway
        taken_as g e = subst (λ (x : Fate). FateAs (place_of noted.rows_now) (λ p. step_phase p here.q b) (finished_phase here.q) x m.headway) e taken

        -- one phase further
        module _ (q' : Phase) (g : step_phase parentheses here.q b ≡ some (to q')) where
          step_on : step_declarations parentheses (within here.ds here.q) b ≡ some (within here.ds q')
          step_on = ap (moved_by here.ds) g

          mentions_on : (mentioned here.ds ++ mentioned_in here.q) ++ ending_at here.q b ≡ mentioned here.ds ++ mentioned_in q'
          mentions_on = append_assoc (mentioned here.ds) (mentioned_in here.q) (ending_at here.q b) ∙ ap (λ (l : Names). mentioned here.ds ++ l) (sym (names_grow parentheses here.q b (to q') g).mentioned_are)

          tags_on : (declared_names here.ds ++ declared_in here.q) ++ names_ended (own_name here.q) b ≡ declared_names here.ds ++ declared_in q'
          tags_on = append_assoc (declared_names here.ds) (declared_in here.q) (names_ended (own_name here.q) b) ∙ ap (λ (l : Names). declared_names here.ds ++ l) (sym (names_grow parentheses here.q b (to q') g).declared_are)

          module _ (size : ModelSize) (w : SizesAs m.headway size) (hw : HeadwayIs (place_of noted.rows_now) q' m.headway) where
            nodes_are : size.nodes ≡ spec_nodes (finished_phase q').content
            nodes_are = (w.is (place_of noted.rows_now) q' hw (step_has_room parentheses here.q q' b few_here g)).nodes_are

            deep_is : size.deep ≡ spec_depth (finished_phase q').content
            deep_is = (w.is (place_of noted.rows_now) q' hw (step_has_room parentheses here.q q' b few_here g)).deep_is

            goes : size.nodes ≤ nodes_at_most → size.deep ≤ deepest_tree → ByteRead text at nb' ne' tb' te' productions nodes (scan false None m.headway k)
            goes c d =
                let fits : DtdFits (here.ds ++ finished_phase q' ∷ []) = record {
                  few = few_with here.ds (finished_phase here.q) (finished_phase q') here.stands.fits.few (omega (arith, c, nodes_are));
                  shallow = shallow_with here.ds (finished_phase here.q) (finished_phase q') here.stands.fits.shallow (omega (arith, d, deep_is));
                } in
                onward (record {
                  inside = followed text i.rest at b i.next;
                  rooms = rooms_now;
                  small = f.small;
                  going = refl;
                  state = within here.ds q';
                  stands = one_byte_on text i.rest at b (within here.ds here.q) (within here.ds q') here.stands i.next step_on fits;
                  kept = amid noted.rows_now noted.tag_rows_now refl
                      (record {
                        names_are = subst (λ (l : Names). RosterIs l nb' ne' k.names noted.rows_now) mentions_on noted.held.names_are;
                        tags_are = subst (λ (l : Names). RosterIs l tb' te' k.tags noted.tag_rows_now) tags_on noted.held.tags_are;
                      })
                      (subst (ElementIs k noted.rows_now noted.tag_rows_now) (sym (names_grow parentheses here.q b (to q') g).declared_are) element_now) hw kept_now;
                })

            large : nodes_at_most < size.nodes → ByteRead text at nb' ne' tb' te' productions nodes (scan false (Some 53) m.headway k)
            large c =
                halted 53 refl
                (refused_by_nodes text i.rest at b parentheses (within here.ds here.q) (within here.ds q') here.stands i.next step_on (λ few. omega (arith, c, nodes_are, last_few here.ds (finished_phase q') few)))

            deep : size.nodes ≤ nodes_at_most → deepest_tree < size.deep → ByteRead text at nb' ne' tb' te' productions nodes (scan false (Some 54) m.headway k)
            deep c d =
                halted 54 refl
                (refused_by_depth text i.rest at b parentheses (within here.ds here.q) (within here.ds q') here.stands i.next step_on
                (few_with here.ds (finished_phase here.q) (finished_phase q') here.stands.fits.few (omega (arith, c, nodes_are)))
                (inl (λ low. omega (arith, d, deep_is, last_shallow here.ds (finished_phase q') low))))

            weighed : ByteRead text at nb' ne' tb' te' productions nodes (scan false (limit_by size) m.headway k)
            weighed = by_nodes (ltb nodes_at_most size.nodes) refl
              where
                by_depth : (t : Bool) → ltb deepest_tree size.deep ≡ t → size.nodes ≤ nodes_at_most → ByteRead text at nb' ne' tb' te' productions nodes (scan false (cond t (Some 54) None) m.headway k)
                by_depth true e c = deep c (ltb-true _ _ e)
                by_depth false e c = goes c (ltb-false _ _ e)

                by_nodes : (t : Bool) → ltb nodes_at_most size.nodes ≡ t → ByteRead text at nb' ne' tb' te' productions nodes (scan false (cond t (Some 53) (cond (ltb deepest_tree size.deep) (Some 54) None)) m.headway k)
                by_nodes true e = large (ltb-true _ _ e)
                by_nodes false e = by_depth (ltb deepest_tree size.deep) refl (ltb-false _ _ e)

        pub byte_on : (size : ModelSize) → m.fate ≡ Fate.On → SizesAs m.headway size → ByteRead text at nb' ne' tb' te' productions nodes (scan false (limit_by size) m.headway k)
        byte_on size e w = on (taken_as Fate.On e)
          where
            on : FateAs (place_of noted.rows_now) (λ p. step_phase p here.q b) (finished_phase here.q) Fate.On m.headway → ByteRead text at nb' ne' tb' te' productions nodes (scan false (limit_by size) m.headway k)
            on (moves q' g hw) = weighed q' g size w hw

        -- one pair of parentheses too many
        pub byte_deep : m.fate ≡ Fate.Deep → ByteRead text at nb' ne' tb' te' productions nodes (scan false (Some 54) s.headway k)
        byte_deep e = on (taken_as Fate.Deep e)
          where
            on : FateAs (place_of noted.rows_now) (λ p. step_phase p here.q b) (finished_phase here.q) Fate.Deep m.headway → ByteRead text at nb' ne' tb' te' productions nodes (scan false (Some 54) s.headway k)
            on (too_deep q' g l w) =
                halted 54 refl
                (refused_by_depth text i.rest at b (suc parentheses) (within here.ds here.q) (within here.ds q') here.stands i.next (ap (moved_by here.ds) l)
                (subst (λ (d : Declaration). EachFewNodes (here.ds ++ d ∷ [])) (sym w) here.stands.fits.few) (inr (ap (moved_by here.ds) g)))

        -- a byte that the grammar does not take
        pub byte_refused : (content : Bool) (n : ℕ) → m.fate ≡ Fate.Refused → content ≡ content_in s.headway.station → NumberAt text at content n → ByteRead text at nb' ne' tb' te' productions nodes (scan false (Some n) s.headway k)
        byte_refused content n e c w = on (taken_as Fate.Refused e)
          where
            at_contents : content ≡ content_in (station_of here.q)
            at_contents = c ∙ ap content_in here.headway.station_is

            begins : (content ≡ true) ↔ ContentMayBegin text at
            begins =
                let v = where_content_begins text at (within here.ds here.q) here.stands in (
                  (λ y. let p = station_contents here.q (sym at_contents ∙ y) in v.1 (here.ds, p.0, ap (within here.ds) p.1)),
                  (λ y. let p = v.0 y in at_contents ∙ contents_station here.ds p.0 here.q p.1 p.2),
                )

            on : FateAs (place_of noted.rows_now) (λ p. step_phase p here.q b) (finished_phase here.q) Fate.Refused m.headway → ByteRead text at nb' ne' tb' te' productions nodes (scan false (Some n) s.headway k)
            on (FateAs.refuses g) =
                halted n refl (refused_by_grammar text i.rest at b n (within here.ds here.q) here.stands i.next (λ p. ap (moved_by here.ds) (g p)) (w begins))

        -- a declaration that is over
        module _ (e : m.fate ≡ Fate.Over) where
          record OverAt : Type 0 where
            declaration : Declaration
            stepped : step_phase parentheses here.q b ≡ some (over declaration)
            shown : ContentShown (place_of noted.rows_now) declaration.content m.headway.row

          over_at : OverAt
          over_at = on (taken_as Fate.Over e)
            where
              on : FateAs (place_of noted.rows_now) (λ p. step_phase p here.q b) (finished_phase here.q) Fate.Over m.headway → OverAt
              on (completes d g w) = record { declaration = d; stepped = g; shown = w }

          few_over : spec_nodes over_at.declaration.content ≤ nodes_at_most
          few_over = subst (λ (d : Declaration). spec_nodes d.content ≤ nodes_at_most) (over_as_finished parentheses here.q b over_at.declaration over_at.stepped) few_here

          pub may_conclude : Concluding k m.headway.row.length
          may_conclude = record {
            small = f.small;
            short = let z = laid_count (place_of noted.rows_now) over_at.declaration.content m.headway.row over_at.shown.laid in omega (arith, z, few_over);
          }

          abbrev all : List Declaration
          all = here.ds ++ over_at.declaration ∷ []

          step_over : step_declarations parentheses (within here.ds here.q) b ≡ some (outside all)
          step_over = ap (moved_by here.ds) over_at.stepped

          fits_over : DtdFits (finished_dtd (outside all))
          fits_over =
              subst DtdFits (sym (finished_some here.ds over_at.declaration))
              (subst (λ (d : Declaration). DtdFits (here.ds ++ d ∷ [])) (over_as_finished parentheses here.q b over_at.declaration over_at.stepped) here.stands.fits)

          names_over : (mentioned here.ds ++ mentioned_in here.q) ++ ending_at here.q b ≡ mentioned all
          names_over =
              append_assoc (mentioned here.ds) (mentioned_in here.q) (ending_at here.q b)
              ∙ ap (λ (l : Names). mentioned here.ds ++ l) (sym (names_grow parentheses here.q b (over over_at.declaration) over_at.stepped).mentioned_are)
              ∙ sym (one_declaration_more here.ds over_at.declaration).names

          tags_over : (declared_names here.ds ++ declared_in here.q) ++ names_ended (own_name here.q) b ≡ declared_names all
          tags_over =
              append_assoc (declared_names here.ds) (declared_in here.q) (names_ended (own_name here.q) b)
              ∙ ap (λ (l : Names). declared_names here.ds ++ l) (sym (names_grow parentheses here.q b (over over_at.declaration) over_at.stepped).declared_are)
              ∙ sym (one_declaration_more here.ds over_at.declaration).tags

          held_over : NamesHeld (mentioned all) (declared_names all) k nb' ne' tb' te' noted.rows_now noted.tag_rows_now
          held_over = record {
            names_are = subst (λ (l : Names). RosterIs l nb' ne' k.names noted.rows_now) names_over noted.held.names_are;
            tags_are = subst (λ (l : Names). RosterIs l tb' te' k.tags noted.tag_rows_now) tags_over noted.held.tags_are;
          }

          pub rooms_over : (productions' nodes' : List ℕ) (r : Docket) → ConcludedIs k at m.headway.row productions nodes productions' nodes' r → Rooms nb' ne' tb' te' productions' nodes'
          rooms_over productions' nodes' r c = record {
            name_room = f.name_room;
            tag_room = f.tag_room;
            section_room = record { production_room = c.long_productions ∙ i.up_to_lem.rooms.section_room.production_room; node_room = c.long_nodes ∙ i.up_to_lem.rooms.section_room.node_room };
          }

          pub byte_over : (productions' nodes' : List ℕ) (r : Docket) → ConcludedIs k at m.headway.row productions nodes productions' nodes' r
              → ByteRead text at nb' ne' tb' te' productions' nodes' (scan true None s.headway r)
          byte_over productions' nodes' r c = onward (record {
            inside = followed text i.rest at b i.next;
            rooms = rooms_over productions' nodes' r c;
            small = c.small;
            going = refl;
            state = outside all;
            stands = one_byte_on text i.rest at b (within here.ds here.q) (outside all) here.stands i.next step_over fits_over;
            kept = between noted.rows_now noted.tag_rows_now refl
                (record {
                  names_are = subst (λ x. RosterIs (mentioned all) nb' ne' x noted.rows_now) (sym c.same_names) held_over.names_are;
                  tags_are = subst (λ x. RosterIs (declared_names all) tb' te' x noted.tag_rows_now) (sym c.same_tags) held_over.tags_are;
                })
                (c.is text here.ds over_at.declaration nb' ne' tb' te' noted.rows_now noted.tag_rows_now i.up_to_lem.rooms.section_room
                (record {
                  held = held_over;
                  element = subst (ElementIs k noted.rows_now noted.tag_rows_now) (sym (names_grow parentheses here.q b (over over_at.declaration) over_at.stepped).declared_are) element_now;
                  laid = over_at.shown.laid;
                })
                (λ h l. too_much_there text i.rest at b here.ds here.q over_at.declaration here.stands h i.next step_over fits_over l) kept_now);
          })

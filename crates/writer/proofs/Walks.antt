-- A writer of sheets goes through a text. Assumes nothing.
use Rattle.std.specs.Prelude.{Option as Taken, Some, None}
use mathlib.Core.Path.{◌≡◌, refl, sym, ◌∙◌, ap, ap₂, subst}
use mathlib.Core.Bool.{Bool, true, false}
use mathlib.Core.Option.{none, some}
use mathlib.Core.List.{List, [], ◌∷◌, ◌++◌}
use Prim.Native.Nat.{ℕ, suc, ◌+◌, ◌-◌, ◌*◌, ◌≤◌, ◌<◌}
use native.Mathlib.Omega.{arith}
use lib.ListN.{length, take, drop, length-drop}
use lib.Seq.{drop-drop, drop-append_seam}
use Rattle.notation.specs.Rules.{Rules}
use Rattle.notation.specs.Tokens.{TextToken, token_bytes}
use Rattle.encoding.specs.Mentions.{tags_mentioned, strings_mentioned, programs_mentioned}
use Rattle.encoding.specs.Distinct.{distinct}
use Rattle.encoding.specs.Encoded.{bytes_of_each}
use Rattle.reading.specs.Rules.{Progress, beginning}
use Rattle.lexing.proofs.Spellings.{part, part_is}
use Rattle.lexemes.specs.Kinds.{token_kind, token_number, TokenFits}
use Rattle.verdicts.specs.Judged.{writes, refused_at, Judged, ended}
use Rattle.verdicts.proofs.Judging.{judged_right}
use Rattle.stores.specs.Rows.{RowsIn}
use Rattle.stores.proofs.Mentioning.{empty_store}
use Rattle.reading.proofs.Telling.{none≢some}
use Rattle.desks.specs.Spots.{spot}
use Rattle.mentions.specs.SoFar.{so_far}
use Rattle.ledgers.specs.Trodden.{Trodden, TokenAt, LeadsToRules}
use Rattle.ledgers.specs.Space.{SpaceFor}
use Rattle.ledgers.proofs.Telling.{trodden_first, trodden_on, trodden_tidy, leads_back, tells_rules, tells_40, tells_41}
use Rattle.rulings.specs.declared.Reader.{Reader}
use Rattle.std.specs.Prelude.{Ok, Err}
use Rattle.rulings.specs.Readers.{Holds, Firm, StartIs}
use Rattle.sights.specs.declared.Token.{Token}
use Rattle.sights.specs.Rulings.{Ruling}
use Rattle.sights.specs.Glances.{Met, Glance, Seen, writes_rules, refuses, GlanceIs, Somewhere, RestTold, rest_writes, rest_refused, RestIs}
use Rattle.sights.proofs.Rest.{met_of}
use Rattle.writing.specs.TooMany.{last_byte_of}
use Rattle.writing.specs.Written.{WrittenAs}
use Rattle.strokes.specs.Strokes.{no_ink}
use Rattle.inks.specs.declared.Ink.{Ink}
use Rattle.inks.specs.Held.{Trim, InkIs}
use Rattle.beds.specs.declared.Bed.{Bed}
use Rattle.desks.specs.Kept.{StoresHold}
use Rattle.shelves.specs.declared.Shelved.{Shelved}
use Rattle.shelves.specs.Shelves.{Rowed}
use Rattle.shelves.proofs.Rows.{rows_fit}
use Rattle.slips.specs.declared.Slip.{Slip}
use Rattle.pasts.specs.declared.Past.{Past}
use Rattle.advance.specs.declared.Desk.{Desk}
use Rattle.advance.specs.Advance.{Firmly, DeskHolds, BehindToken, Advanced}
use Rattle.sealing.specs.declared.Outcome.{Outcome}
use Rattle.closings.specs.Closings.{AtTheEnd, SomeWhole, FinishIs}
use Rattle.writer.specs.declared.Ahead.{Ahead}
use Rattle.writer.specs.declared.Walk.{Walk}
use Rattle.writer.specs.Walks.{Places, FreshDesk, LastIs, Under, WalkStopped, LateIs, ahead_of, WalkAhead, WalkIs, WalkedOn}
use Rattle.writer.proofs.Lasts.{last_small}

pub fresh_as : (ink : Ink) (bed : Bed) → InkIs no_ink ink → FreshDesk (record {
  slip = record { start = 0; nonterm = 0; tag = 0; front = 0xFFFF; back = 0xFFFF };
  past = record { productions = 0; before = 0; nodes = 0 };
  shelved = record { place = 0; tags = 0; strings = 0; programs = 0 };
  ink = ink;
  bed = bed;
})
fresh_as ink bed h = record {
  trim = h.trim;
  no_tags = refl;
  no_strings = refl;
  no_programs_lem = refl;
  no_start = refl;
  no_nonterm = refl;
  no_tag = refl;
  no_front = refl;
  no_back = refl;
  no_productions = refl;
  none_before = refl;
  no_nodes = refl;
}

module _ (tb te sb se pb pe productions nodes : List ℕ) where
  abbrev Here : List ℕ → ℕ → Reader → Glance → Desk → Type 0
  Here text from reader g d = Under text from reader g d tb te sb se pb pe productions nodes

  -- there is space for what is stored
  pub space_of : (r : Rules) (s : Progress) (d : Desk) → Firmly d tb te sb se pb pe productions nodes → DeskHolds r s d tb te sb se pb pe productions nodes → SpaceFor r (so_far s)
  space_of r s d f k = record {
    few_tags = omega (arith, (rows_fit tb te d.shelved.tags (distinct (tags_mentioned (so_far s))) k.stores.tags_held).0, f.rowed.tag_places);
    short_programs = omega (arith, (rows_fit pb pe d.shelved.programs (distinct (bytes_of_each r (programs_mentioned (so_far s)))) k.stores.programs_held).1, f.rowed.program_room);
    short_strings = omega (arith, (rows_fit sb se d.shelved.strings (distinct (strings_mentioned (so_far s))) k.stores.strings_held).1, f.rowed.string_room);
  }

  -- before the first token
  pub firmly_first : (d : Desk) → Places tb te sb se pb pe productions nodes → FreshDesk d → Firmly d tb te sb se pb pe productions nodes
  firmly_first d p f = record {
    rowed = record {
      tag_room = p.tag_room;
      tag_places = p.tag_places;
      string_room = p.string_room;
      string_places = p.string_places;
      program_room = p.program_room;
      program_places = p.program_places;
      tag_rows = record { rows = []; are = subst (λ (n : ℕ). RowsIn tb te n []) (sym f.no_tags) (empty_store tb te) };
      string_rows = record { rows = []; are = subst (λ (n : ℕ). RowsIn sb se n []) (sym f.no_strings) (empty_store sb se) };
      program_rows = record { rows = []; are = subst (λ (n : ℕ). RowsIn pb pe n []) (sym f.no_programs_lem) (empty_store pb pe) };
    };
    trim = f.trim;
    production_room = p.production_room;
    node_room = p.node_room;
  }

  kept_first : (r : Rules) (d : Desk) → FreshDesk d → DeskHolds r beginning d tb te sb se pb pe productions nodes
  kept_first r d f = record {
    stores = record {
      tags_held = subst (λ (n : ℕ). RowsIn tb te n []) (sym f.no_tags) (empty_store tb te);
      strings_held = subst (λ (n : ℕ). RowsIn sb se n []) (sym f.no_strings) (empty_store sb se);
      programs_held = subst (λ (n : ℕ). RowsIn pb pe n []) (sym f.no_programs_lem) (empty_store pb pe);
      tags_short = omega arith;
    };
    slipped = tt;
    slip_fits = record {
      start_small = omega (arith, f.no_start);
      nonterm_small = omega (arith, f.no_nonterm);
      tag_small = omega (arith, f.no_tag);
      front_small = omega (arith, f.no_front);
      back_small = omega (arith, f.no_back);
    };
    ink_held = λ q e. absurd (none≢some refl e);
    bed_held = λ x c u h e. absurd (let z : ◌≡◌ {A = ℕ} 0 7 = ap spot e in omega arith);
    past_held = record {
      productions_are = f.no_productions;
      records = let z : 12 * d.past.productions ≡ 0 = omega (arith, f.no_productions) in ap (λ (n : ℕ). take n productions) z;
      before_is = f.none_before;
      nodes_are = omega (arith, f.no_nodes, f.none_before);
      laid = ap (λ (n : ℕ). take n nodes) f.no_nodes;
    };
  }

  -- what lies ahead is what was found
  pub ahead_under : (text : List ℕ) (from : ℕ) (r : Reader) (d : Desk) (g : Glance) (b : Ahead) → b ≡ ahead_of g → Under text from r g d tb te sb se pb pe productions nodes
      → WalkAhead text from r d tb te sb se pb pe productions nodes b
  ahead_under text from r d (Ok t) b e u = subst (WalkAhead text from r d tb te sb se pb pe productions nodes) (sym e) u
  ahead_under text from r d (Err a) b e u = subst (WalkAhead text from r d tb te sb se pb pe productions nodes) (sym e) u

  pub walk_first : (text : List ℕ) (r : Reader) (d : Desk) (g : Glance) (b : Ahead) → Places tb te sb se pb pe productions nodes → StartIs r → FreshDesk d → GlanceIs text r g → b ≡ ahead_of g
      → WalkIs text (record { from = 0; desk = d; reader = r; ahead = b }) tb te sb se pb pe productions nodes
  walk_first text r d g b p h f i e = ahead_under text 0 r d g b e (record {
    high = omega arith;
    firmly = firmly_first d p f;
    state = beginning;
    trodden = trodden_first text;
    holds = h.holds;
    glance = i;
    kept = λ q l. kept_first q d f;
  })

module _ (text : List ℕ) (from : ℕ) (reader : Reader) (g : Token) (d : Desk) (tb te sb se pb pe productions nodes : List ℕ) (u : Under text from reader (Ok g) d tb te sb se pb pe productions nodes) where
  met : Met u.state (drop from text) g
  met = met_of u.state (drop from text) g (u.glance.told u.state u.holds)

  pub onward : suc from ≤ from + g.at + g.long
  onward = omega (arith, met.onward)

  pub reach : from + (g.at + g.long) ≤ length text
  reach = omega (arith, u.high, u.glance.high, length-drop from text)

  token_is : part text (from + g.at) ≡ token_bytes met.token ++ met.stands.rest
  token_is =
      part_is text (from + g.at) ∙ sym (drop-drop g.at from text) ∙ ap₂ (λ (n : ℕ) (x : List ℕ). drop n x) met.stands.at_is met.stands.are
      ∙ drop-append_seam met.stands.gap (token_bytes met.token ++ met.stands.rest)

  module _ (tb' te' sb' se' pb' pe' productions' nodes' : List ℕ) where
    abbrev pub Behind : Taken Desk → Type 0
    Behind a = Advanced d reader g.reader (part text (from + g.at)) g.kind g.number tb te sb se pb pe productions nodes tb' te' sb' se' pb' pe' productions' nodes' a

    next_of : (a : Taken Desk) → Behind a → (r : Rules) → LeadsToRules met.next r → BehindToken r met.next a tb' te' sb' se' pb' pe' productions' nodes'
    next_of a f r l =
        f.is r u.state met.next met.token met.stands.rest u.holds met.holds met.stands.goes met.stands.fits met.kind_is met.number_is token_is
        (trodden_tidy text from u.state u.trodden) l (u.kept r (leads_back u.state met.next met.token r met.stands.goes.taken l))

    far : from + (g.at + g.long) ≡ from + g.at + g.long
    far = omega arith

    trodden' : Trodden text (from + g.at + g.long) met.next
    trodden' = subst (λ (n : ℕ). Trodden text n met.next) far (trodden_on text from g.at g.long u.state met.next met.token u.trodden met.stands)

    pub stride_on : (a : Desk) → Behind (Some a) → (h : Glance) (b : Ahead) → GlanceIs (part text (from + g.at + g.long)) g.reader h → b ≡ ahead_of h
        → WalkIs text (record { from = from + g.at + g.long; desk = a; reader = g.reader; ahead = b }) tb' te' sb' se' pb' pe' productions' nodes'
    stride_on a f h b i y = ahead_under tb' te' sb' se' pb' pe' productions' nodes' text (from + g.at + g.long) g.reader a h b y (record {
      high = omega (arith, reach);
      firmly = f.firmly;
      state = met.next;
      trodden = trodden';
      holds = met.holds;
      glance = subst (λ (x : List ℕ). GlanceIs x g.reader h) (part_is text (from + g.at + g.long)) i;
      kept = λ r l. (next_of (Some a) f r l).kept;
    })

    pub stride_stop : Behind None → (last : ℕ) → LastIs g.kind g.number g.long last
        → WalkIs text (record { from = from + g.at + g.long; desk = d; reader = g.reader; ahead = Ahead.Full (from + g.at + last) }) tb' te' sb' se' pb' pe' productions' nodes'
    stride_stop f last l = record {
      high = omega (arith, reach);
      firm = u.glance.firm;
      begun = from;
      at = g.at;
      long = g.long;
      state = u.state;
      next = met.next;
      token = met.token;
      from_is = sym far;
      byte_is = ap (λ (n : ℕ). from + g.at + n) (l.is met.token met.stands.fits met.kind_is met.number_is met.stands.long_is);
      trodden = u.trodden;
      stands = met.stands;
      holds = met.holds;
      space = λ r k. space_of tb te sb se pb pe productions nodes r u.state d u.firmly (u.kept r k);
      no_space = λ r k. (next_of None f r k).no_space;
    }

  pub last_inside : (last : ℕ) → LastIs g.kind g.number g.long last → from + g.at + last ≤ length text
  last_inside last l =
      let e = l.is met.token met.stands.fits met.kind_is met.number_is met.stands.long_is in
      omega (arith, e, last_small met.token met.stands.fits, met.stands.long_is, reach)

-- where a store was full: 41, or 40 further on
module _ (text : List ℕ) (from byte : ℕ) (reader : Reader) (s : WalkStopped text from byte reader) where
  pub somewhere : Firm reader × Somewhere reader
  somewhere = (s.firm, record { state = s.next; holds = s.holds })

  rest_of : (a b : Ruling) → a ≡ b → RestIs (part text from) reader a → RestTold s.next (drop from text) b
  rest_of a b e r = subst (RestTold s.next (drop from text)) e ((subst (λ (x : List ℕ). RestIs x reader a) (part_is text from) r).told s.next s.holds)

  trodden_by : Trodden text (s.begun + (s.at + s.long)) s.next
  trodden_by = trodden_on text s.begun s.at s.long s.state s.next s.token s.trodden s.stands

  trodden_here : Trodden text from s.next
  trodden_here = subst (λ (n : ℕ). Trodden text n s.next) (sym s.from_is) trodden_by

  told_41 : RestTold s.next (drop from text) (Ok tt) → LateIs text 41 byte
  told_41 (rest_writes v j) area =
      let j' = subst (λ (n : ℕ). Judged s.next (drop n text) (writes v)) s.from_is j in
      let l = (tells_rules text (s.begun + (s.at + s.long)) s.next v trodden_by j').leads in
      subst (λ (n : ℕ). WrittenAs text area 41 n area) (sym s.byte_is)
      (tells_41 text area s.begun s.at s.long s.state s.next s.token v s.trodden s.stands j' (s.space v (leads_back s.state s.next s.token v s.stands.goes.taken l)) (s.no_space v l))

  told_40 : (k : ℕ) → RestTold s.next (drop from text) (Err k) → LateIs text 40 (from + k)
  told_40 k (rest_refused j) area = tells_40 text area from k s.next trodden_here j

  told_high : (k : ℕ) → RestTold s.next (drop from text) (Err k) → from + k ≤ length text
  told_high k (rest_refused j) = (judged_right text (refused_at (from + k)) (trodden_here.judged (refused_at k) j)).reached

  pub late_41 : (a : Ruling) → a ≡ Ok tt → RestIs (part text from) reader a → LateIs text 41 byte
  late_41 a e r = told_41 (rest_of a (Ok tt) e r)

  pub late_40 : (a : Ruling) (k : ℕ) → a ≡ Err k → RestIs (part text from) reader a → LateIs text 40 (from + k)
  late_40 a k e r = told_40 k (rest_of a (Err k) e r)

  pub late_high : (a : Ruling) (k : ℕ) → a ≡ Err k → RestIs (part text from) reader a → from + k ≤ length text
  late_high a k e r = told_high k (rest_of a (Err k) e r)

-- where the walk has ended
module _ (text area : List ℕ) (w : Walk) (tb te sb se pb pe productions nodes : List ℕ) (h : WalkIs text w tb te sb se pb pe productions nodes) where
  ahead_is : (a : Ahead) → w.ahead ≡ a → WalkAhead text w.from w.reader w.desk tb te sb se pb pe productions nodes a
  ahead_is a e = subst (WalkAhead text w.from w.reader w.desk tb te sb se pb pe productions nodes) e h

  pub stop_of : (byte : ℕ) → w.ahead ≡ Ahead.Full byte → WalkStopped text w.from byte w.reader
  stop_of byte e = ahead_is (Ahead.Full byte) e

  end_of : (a b : Ruling) → w.ahead ≡ Ahead.End a → a ≡ b → Under text w.from w.reader (Err b) w.desk tb te sb se pb pe productions nodes
  end_of a b e f = subst (λ (z : Ruling). Under text w.from w.reader (Err z) w.desk tb te sb se pb pe productions nodes) f (ahead_is (Ahead.End a) e)

  refused : (k : ℕ) (s : Progress) → Trodden text w.from s → Seen s (drop w.from text) (Err (Err k)) → WrittenAs text area 40 (w.from + k) area
  refused k s t (refuses j) = tells_40 text area w.from k s t j

  pub settled_40 : (a : Ruling) (k : ℕ) → w.ahead ≡ Ahead.End a → a ≡ Err k → WrittenAs text area 40 (w.from + k) area
  settled_40 a k e y = let u = end_of a (Err k) e y in refused k u.state u.trodden (u.glance.told u.state u.holds)

  pub byte_high : (a : Ruling) (k : ℕ) → w.ahead ≡ Ahead.End a → a ≡ Err k → w.from + k ≤ length text
  byte_high a k e y = let u = end_of a (Err k) e y in omega (arith, u.high, u.glance.high, length-drop w.from text)

  abbrev WholeAt : Rules → Progress → Type 0
  WholeAt r s = AtTheEnd text r s w.desk.slip w.desk.shelved w.desk.past tb te productions nodes sb se pb pe

  whole_at : (u : Under text w.from w.reader (Err (Ok tt)) w.desk tb te sb se pb pe productions nodes) → Seen u.state (drop w.from text) (Err (Ok tt)) → (r : Rules) × WholeAt r u.state
  whole_at u (writes_rules r a j) =
      let t = tells_rules text w.from u.state r u.trodden (ended j a) in
      let k = u.kept r t.leads in (
        r,
        record {
          is_text = t.is_text;
          value = a;
          tidy = trodden_tidy text w.from u.state u.trodden;
          rowed = u.firmly.rowed;
          production_room = u.firmly.production_room;
          node_room = u.firmly.node_room;
          stores = k.stores;
          slipped = k.slipped;
          slip_fits = k.slip_fits;
          past_held = k.past_held;
        },
      )

  pub some_whole : (a : Ruling) → w.ahead ≡ Ahead.End a → a ≡ Ok tt → SomeWhole w.desk.slip w.desk.shelved w.desk.past tb te productions nodes sb se pb pe
  some_whole a e y =
      let u = end_of a (Ok tt) e y in
      let k = whole_at u (u.glance.told u.state u.holds) in
      record { text = text; rules = k.0; state = u.state; whole = k.1 }

  pub settled_0 : (after : List ℕ) (o : Outcome) (a : Ruling) → w.ahead ≡ Ahead.End a → a ≡ Ok tt → FinishIs w.desk.slip w.desk.shelved w.desk.past tb te productions nodes sb se pb pe area after o → WrittenAs text area o.number o.count after
  settled_0 after o a e y f =
      let u = end_of a (Ok tt) e y in
      let k = whole_at u (u.glance.told u.state u.holds) in
      f.is text k.0 u.state k.1

places_of : (d : Desk) (tb te sb se pb pe productions nodes : List ℕ) → Firmly d tb te sb se pb pe productions nodes → Places tb te sb se pb pe productions nodes
places_of d tb te sb se pb pe productions nodes f = record {
  tag_room = f.rowed.tag_room;
  tag_places = f.rowed.tag_places;
  string_room = f.rowed.string_room;
  string_places = f.rowed.string_places;
  program_room = f.rowed.program_room;
  program_places = f.rowed.program_places;
  production_room = f.production_room;
  node_room = f.node_room;
}

module _ (text : List ℕ) (w : Walk) (t : Token) (tb te sb se pb pe productions nodes : List ℕ) (y : w.ahead ≡ Ahead.Token t) (h : WalkIs text w tb te sb se pb pe productions nodes) where
  pub here : Under text w.from w.reader (Ok t) w.desk tb te sb se pb pe productions nodes
  here = subst (WalkAhead text w.from w.reader w.desk tb te sb se pb pe productions nodes) y h

  pub reached : w.from + (t.at + t.long) ≤ length text
  reached = reach text w.from w.reader t w.desk tb te sb se pb pe productions nodes here

  pub reach_last : (last : ℕ) → LastIs t.kind t.number t.long last → w.from + t.at + last ≤ length text
  reach_last last l = last_inside text w.from w.reader t w.desk tb te sb se pb pe productions nodes here last l

  module _ (tb' te' sb' se' pb' pe' productions' nodes' : List ℕ) where
    abbrev pub BehindNext : Taken Desk → Type 0
    BehindNext a = Advanced w.desk w.reader t.reader (part text (w.from + t.at)) t.kind t.number tb te sb se pb pe productions nodes tb' te' sb' se' pb' pe' productions' nodes' a

    pub strode_on : (a : Desk) → BehindNext (Some a) → (g : Glance) (b : Ahead) → GlanceIs (part text (w.from + t.at + t.long)) t.reader g → b ≡ ahead_of g
        → WalkedOn text w tb' te' sb' se' pb' pe' productions' nodes' (record { from = w.from + t.at + t.long; desk = a; reader = t.reader; ahead = b })
    strode_on a f g b i x = record {
      onward = onward text w.from w.reader t w.desk tb te sb se pb pe productions nodes here;
      inside = omega (arith, reached);
      places = places_of a tb' te' sb' se' pb' pe' productions' nodes' f.firmly;
      walk = stride_on text w.from w.reader t w.desk tb te sb se pb pe productions nodes here tb' te' sb' se' pb' pe' productions' nodes' a f g b i x;
    }

    pub strode_stop : Places tb' te' sb' se' pb' pe' productions' nodes' → BehindNext None → (last : ℕ) → LastIs t.kind t.number t.long last
        → WalkedOn text w tb' te' sb' se' pb' pe' productions' nodes' (record { from = w.from + t.at + t.long; desk = w.desk; reader = t.reader; ahead = Ahead.Full (w.from + t.at + last) })
    strode_stop p f last l = record {
      onward = onward text w.from w.reader t w.desk tb te sb se pb pe productions nodes here;
      inside = omega (arith, reached);
      places = p;
      walk = stride_stop text w.from w.reader t w.desk tb te sb se pb pe productions nodes here tb' te' sb' se' pb' pe' productions' nodes' f last l;
    }

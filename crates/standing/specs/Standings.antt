-- What each step makes of where a conversion stands, whole, and what it has come to. Definitions.
-- Assumes nothing.
use Rattle.std.specs.Prelude.{ℕ, ◌+◌, ◌%◌, ◌^◌, Bool, true, false, not, ◌&&◌, ◌||◌, ◌==◌, nat_lt}
use Rattle.places.specs.declared.Place.{Place}
use Rattle.behind.specs.Behinds.{nothing_behind}
use Rattle.behind.specs.declared.Behind.{Behind}
use Rattle.state.specs.Changes.{fresh_state}
use Rattle.state.specs.declared.State.{State}
use Rattle.standing.specs.declared.Standing.{Standing}

-- the numbers of a call behind which more is to come, and of one for which some room was full
abbrev pub more_to_come : ℕ
more_to_come = 16

abbrev pub room_full : ℕ
room_full = 17

-- before the first byte: line and column are counted from 1
abbrev pub first_place : Place
first_place = record { offset = 0; line = 1; column = 1 }

-- nothing is read yet, and it goes on
unfoldable pub fresh_standing : Standing
fresh_standing =
    record {
      number = more_to_come;
      held = 0;
      written = 0;
      place = first_place;
      behind = nothing_behind;
      unread = false;
      unwritten = false;
      left_alone = false;
      going = true;
      state = fresh_state;
    }

-- it goes no further: which file failed, if any, and whether whoever started it is gone
abbrev pub standing_ended : Standing → Bool → Bool → Bool → Standing
standing_ended s unread unwritten alone =
    record {
      number = s.number;
      held = s.held;
      written = s.written;
      place = s.place;
      behind = s.behind;
      unread = unread;
      unwritten = unwritten;
      left_alone = alone;
      going = false;
      state = s.state;
    }

-- a file could not be read, or else not written
abbrev pub standing_stopped : Standing → Bool → Standing
standing_stopped s unread = standing_ended s unread (not unread) s.left_alone

-- whoever started it is gone
abbrev pub standing_forsaken : Standing → Standing
standing_forsaken s = standing_ended s s.unread s.unwritten true

-- after a call: it goes on where more is to come, and where some room was full if anything came of the call. No file is so long that the count of
-- written bytes would begin again from 0
abbrev pub standing_answered : Standing → ℕ → ℕ → Bool → Place → Behind → Standing
standing_answered s number written moved place behind =
    record {
      number = number;
      held = s.held;
      written = (s.written + written) % 2 ^ 64;
      place = place;
      behind = behind;
      unread = false;
      unwritten = false;
      left_alone = false;
      going = number == more_to_come || (number == room_full && moved);
      state = s.state;
    }

-- so many bytes are not taken yet, and another state
abbrev pub standing_with : Standing → ℕ → State → Standing
standing_with s held state =
    record {
      number = s.number;
      held = held;
      written = s.written;
      place = s.place;
      behind = s.behind;
      unread = s.unread;
      unwritten = s.unwritten;
      left_alone = s.left_alone;
      going = s.going;
      state = state;
    }

abbrev pub standing_holding : Standing → ℕ → Standing
standing_holding s held = standing_with s held s.state

abbrev pub with_state : Standing → State → Standing
with_state s state = standing_with s s.held state

-- a file failed, or nobody is there
abbrev pub is_broken : Standing → Bool
is_broken s = s.unread || s.unwritten || s.left_alone

-- it came to a number other than 0 by itself
abbrev pub is_refused : Standing → Bool
is_refused s = nat_lt 0 s.number && not (is_broken s)

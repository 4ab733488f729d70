-- The check sheet: 01's checks as lists of calls with their answers, and the claim about them. Calls and answers are
-- written from 01 alone, and the checksums in them were worked out apart from our definitions: so a check that is wrong
-- in definition and code together shows here.
use Rattle.std.specs.Prelude.{◌≡◌, map}
use Rattle.gateway_check_sheet.specs.Line.{computed, written}
use Rattle.gateway_check_sheet.specs.Numbers.{numbers}
use Rattle.gateway_check_sheet.specs.Orders.{orders}
use Rattle.gateway_check_sheet.specs.Replies.{replies}
use Rattle.gateway_check_sheet.specs.Formed.{forms}
use Rattle.gateway_check_sheet.specs.Homes.{homes}
use Rattle.gateway_check_sheet.specs.Settings.{setting_lines}
use Rattle.gateway_check_sheet.specs.Kinds.{kinds}
use Rattle.gateway_check_sheet.specs.Sequences.{sequences}
use Rattle.gateway_check_sheet.specs.Spacings.{spacings}
use Rattle.gateway_check_sheet.specs.Bodies.{bodies}
use Rattle.gateway_check_sheet.specs.Writings.{writings}
use Rattle.gateway_check_sheet.specs.Listings.{listings}
use Rattle.gateway_check_sheet.specs.Effects.{effects, read_on_c, written_on_c}
use Rattle.gateway_check_sheet.specs.Effects as Effects
use Rattle.gateway_check_sheet.specs.Strays.{strays, refused_strays}
use Rattle.gateway_check_sheet.specs.Seconds.{ticks, untimed, refused_ticks, timed_forms, listed_computed, listed_written}
use Rattle.gateway_check_sheet.specs.Seconds as Seconds
use Rattle.gateway_check_sheet.specs.Indications.{indication_lines}
use Rattle.gateway_check_sheet.specs.Indications as Indications

-- every line of every list comes out as it says
pub record CheckSheet : Type 0 where
  -- 01's answer numbers, from each call that can give them
  pub numbers : map computed numbers ≡ map written numbers
  -- "the first that fails answers"
  pub orders : map computed orders ≡ map written orders
  -- the column "Reply"
  pub replies : map computed replies ≡ map written replies
  -- 1: "Well formed means"
  pub forms : map computed forms ≡ map written forms
  -- 4: "A home list is good when"
  pub homes : map computed homes ≡ map written homes
  -- 16 from fresh and add
  pub settings : map computed setting_lines ≡ map written setting_lines
  -- 10, 11 and 12: the table of kinds
  pub kinds : map computed kinds ≡ map written kinds
  -- 13: "response out of sequence"
  pub sequences : map computed sequences ≡ map written sequences
  -- 21: a Hello or a Poll that comes too soon
  pub spacings : map Indications.computed spacings ≡ map Indications.written spacings
  -- 14 and 15: an Update's body
  pub bodies : map computed bodies ≡ map written bodies
  -- 16 from the writer
  pub writings : map computed writings ≡ map written writings
  -- 1, 2 and 3 from a listing
  pub listings : map computed listings ≡ map written listings
  -- what a call that is carried out leaves in the state, the buffer and the table
  pub effects : map Effects.computed effects ≡ map Effects.written effects
  -- what a stray message to an idle neighbour draws, with `quiet` 0 and 1
  pub strays : map Effects.computed strays ≡ map Effects.written strays
  -- and that a check that refuses it comes first
  pub refused_strays_lem : map computed refused_strays ≡ map written refused_strays
  -- the seconds in each state: what a tick counts, and that nothing else does
  pub seconds : map Effects.computed ticks ≡ map Effects.written ticks
  pub untimed : map Effects.computed untimed ≡ map Effects.written untimed
  -- 22, in its place, and that a refused tick is not counted
  pub refused_ticks_lem : map Seconds.computed refused_ticks ≡ map Seconds.written refused_ticks
  -- 1 by their sum; what add and remove make of them
  pub timed_forms_lem : map computed timed_forms ≡ map written timed_forms
  -- their five lines in a listing
  pub timed_listing : listed_computed ≡ listed_written
  -- which Update is an indication, and that a refused one is none
  pub indications : map Indications.computed indication_lines ≡ map Indications.written indication_lines
  -- an Update read on a net of class C
  pub class_c : read_on_c ≡ written_on_c

-- The worked lines compute. Assumes nothing.
use mathlib.Core.Path.{refl}
use Rattle.checks.specs.Lists.{first, every}
use Rattle.text.specs.Text.{text}
use Rattle.text_values.specs.Places.{index_of, starts_with}
use Rattle.text_values.specs.Numbers.{when_number, is_digit, digits_of, leads_with_zero, decimal_of, dotted_from, dotted_of}
use Rattle.text_values.specs.Hex.{nibble, is_hex, hex_octets}
use Rattle.recording_lines.specs.Lines.{behind, own_as_of, own_of, capability_of, net_of, quiet_of, alone, slashed, add_event, tick_event, rx_event, event_of}
use Rattle.recording_lines.specs.Claims.{is_good}
use Rattle.recording_lines.specs.Cases.{good_lines, their_events, bad_lines, LineCases}

pub cases : LineCases
unfolding text first every index_of starts_with when_number is_digit digits_of leads_with_zero decimal_of dotted_from dotted_of nibble is_hex hex_octets behind own_as_of own_of capability_of net_of quiet_of alone slashed add_event tick_event rx_event event_of is_good good_lines their_events bad_lines
cases =
    record { good = refl; bad = refl; longest = refl; too_long = refl; own_as = refl; own = refl; capability = refl; net = refl; quiet = refl }

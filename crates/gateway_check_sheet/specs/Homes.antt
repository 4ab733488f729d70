-- Check 4, "bad home list". 01: "A home list is good when it is at most 128 whole rows, each a left-justified A, B or
-- C net, a gateway on the common net and a number at most 255, the first gateway being our own address. It may be
-- empty."
use Rattle.std.specs.Prelude.{ℕ, List, [], ◌∷◌, ◌++◌}
use Rattle.gateway_state.specs.declared.State.{State}
use Rattle.gateway_check_sheet.specs.Given.{hex, repeated, ip, ours, theirs, nobody, set, without_neighbours, in_idle, in_up}
use Rattle.gateway_check_sheet.specs.Line.{Line, message}

-- A message from an address that no slot has answers 4 where the list is bad and else 5.
unfoldable pub good : List ℕ → Line
good home = message in_idle 3072 2048 home nobody [] 5 0 0 []

unfoldable pub bad : List ℕ → Line
bad home = message in_idle 3072 2048 home nobody [] 4 0 0 []

-- the same at a gateway on 10.0.0.0, own address 10.0.0.1, and at one on 192.5.6.0, own address 192.5.6.1
unfoldable pub on_a : State
on_a = without_neighbours (set 9 (ip 10 0 0 1) 0 (ip 10 0 0 0))

unfoldable pub on_c : State
on_c = without_neighbours (set 9 (ip 192 5 6 1) 0 (ip 192 5 6 0))

unfoldable pub homes : List Line
homes =
    -- home: "It may be empty"; one row, two, 128
    good [] ∷
    good (ip 10 0 0 0 ∷ ours ∷ 0 ∷ []) ∷
    good (ip 10 0 0 0 ∷ ours ∷ 0 ∷ ip 192 5 6 0 ∷ ours ∷ 1 ∷ []) ∷
    good (repeated 128 (ip 10 0 0 0 ∷ ours ∷ 0 ∷ [])) ∷
    -- home: "at most 128"
    bad (repeated 129 (ip 10 0 0 0 ∷ ours ∷ 0 ∷ [])) ∷
    bad (repeated 1024 (ip 10 0 0 0 ∷ ours ∷ 0 ∷ [])) ∷
    -- home: "whole rows"
    bad (ip 10 0 0 0 ∷ []) ∷
    bad (ip 10 0 0 0 ∷ ours ∷ []) ∷
    bad (ip 10 0 0 0 ∷ ours ∷ 0 ∷ ip 10 0 0 0 ∷ []) ∷
    bad (ip 10 0 0 0 ∷ ours ∷ 0 ∷ ip 10 0 0 0 ∷ ours ∷ []) ∷
    bad (repeated 127 (ip 10 0 0 0 ∷ ours ∷ 0 ∷ []) ++ (ip 10 0 0 0 ∷ ours ∷ [])) ∷
    bad (repeated 128 (ip 10 0 0 0 ∷ ours ∷ 0 ∷ []) ++ (ip 10 0 0 0 ∷ [])) ∷
    -- home: "a left-justified A .. net"
    good (ip 0 0 0 0 ∷ ours ∷ 0 ∷ []) ∷
    good (ip 127 0 0 0 ∷ ours ∷ 0 ∷ []) ∷
    bad (ip 127 0 0 1 ∷ ours ∷ 0 ∷ []) ∷
    bad (ip 127 0 1 0 ∷ ours ∷ 0 ∷ []) ∷
    bad (ip 127 1 0 0 ∷ ours ∷ 0 ∷ []) ∷
    -- home: "B"
    good (ip 128 0 0 0 ∷ ours ∷ 0 ∷ []) ∷
    good (ip 191 255 0 0 ∷ ours ∷ 0 ∷ []) ∷
    bad (ip 191 255 0 1 ∷ ours ∷ 0 ∷ []) ∷
    bad (ip 191 255 1 0 ∷ ours ∷ 0 ∷ []) ∷
    -- home: "C"
    good (ip 192 0 0 0 ∷ ours ∷ 0 ∷ []) ∷
    good (ip 223 255 255 0 ∷ ours ∷ 0 ∷ []) ∷
    bad (ip 223 255 255 1 ∷ ours ∷ 0 ∷ []) ∷
    -- home: others are bad
    bad (ip 224 0 0 0 ∷ ours ∷ 0 ∷ []) ∷
    bad (ip 255 0 0 0 ∷ ours ∷ 0 ∷ []) ∷
    -- home: "each": the second of two, the last of 128
    bad (ip 10 0 0 0 ∷ ours ∷ 0 ∷ ip 224 0 0 0 ∷ ours ∷ 0 ∷ []) ∷
    bad (repeated 127 (ip 10 0 0 0 ∷ ours ∷ 0 ∷ []) ++ (ip 10 0 0 1 ∷ ours ∷ 0 ∷ [])) ∷
    -- home: "a gateway on the common net"
    good (ip 10 0 0 0 ∷ ours ∷ 0 ∷ ip 10 0 0 0 ∷ ip 128 9 0 0 ∷ 0 ∷ ip 10 0 0 0 ∷ ip 128 9 255 255 ∷ 0 ∷ []) ∷
    bad (ip 10 0 0 0 ∷ ours ∷ 0 ∷ ip 10 0 0 0 ∷ ip 128 8 255 255 ∷ 0 ∷ []) ∷
    bad (ip 10 0 0 0 ∷ ours ∷ 0 ∷ ip 10 0 0 0 ∷ ip 128 10 0 0 ∷ 0 ∷ []) ∷
    bad (ip 10 0 0 0 ∷ ours ∷ 0 ∷ ip 10 0 0 0 ∷ 0 ∷ 0 ∷ []) ∷
    -- home: the same of class A and of class C
    message on_a 3072 2048 (ip 10 0 0 0 ∷ ip 10 0 0 1 ∷ 0 ∷ ip 10 0 0 0 ∷ ip 10 255 255 255 ∷ 0 ∷ []) nobody [] 5 0 0 [] ∷
    message on_a 3072 2048 (ip 10 0 0 0 ∷ ip 10 0 0 1 ∷ 0 ∷ ip 10 0 0 0 ∷ ip 11 0 0 0 ∷ 0 ∷ []) nobody [] 4 0 0 [] ∷
    message on_c 3072 2048 (ip 10 0 0 0 ∷ ip 192 5 6 1 ∷ 0 ∷ ip 10 0 0 0 ∷ ip 192 5 6 255 ∷ 0 ∷ []) nobody [] 5 0 0 [] ∷
    message on_c 3072 2048 (ip 10 0 0 0 ∷ ip 192 5 6 1 ∷ 0 ∷ ip 10 0 0 0 ∷ ip 192 5 7 0 ∷ 0 ∷ []) nobody [] 4 0 0 [] ∷
    -- home: "a number at most 255", so that no row is marked as external
    good (ip 10 0 0 0 ∷ ours ∷ 255 ∷ []) ∷
    bad (ip 10 0 0 0 ∷ ours ∷ 256 ∷ []) ∷
    good (ip 10 0 0 0 ∷ ours ∷ 0 ∷ ip 10 0 0 0 ∷ ours ∷ 255 ∷ []) ∷
    bad (ip 10 0 0 0 ∷ ours ∷ 0 ∷ ip 10 0 0 0 ∷ ours ∷ 256 ∷ []) ∷
    bad (ip 10 0 0 0 ∷ ours ∷ 511 ∷ []) ∷
    -- home: "the first gateway being our own address", the others any on the net
    bad (ip 10 0 0 0 ∷ ip 128 9 0 2 ∷ 0 ∷ []) ∷
    bad (ip 10 0 0 0 ∷ ip 128 9 0 0 ∷ 0 ∷ []) ∷
    bad (ip 10 0 0 0 ∷ ip 128 9 0 2 ∷ 0 ∷ ip 10 0 0 0 ∷ ours ∷ 0 ∷ []) ∷
    good (ip 10 0 0 0 ∷ ours ∷ 0 ∷ ip 10 0 0 0 ∷ ip 128 9 0 2 ∷ 0 ∷ ip 10 0 0 0 ∷ ours ∷ 0 ∷ []) ∷
    -- home: checked of every message, and a good list is what a Poll is answered with
    message in_up 3072 2048 (ip 10 0 0 0 ∷ ours ∷ 256 ∷ []) theirs (hex "02 02 00 00 7D E4 00 07 00 09 00 00 80 09 00 00") 4 0 0 [] ∷
    message in_up 3072 2048 (ip 10 0 0 0 ∷ ours ∷ 256 ∷ []) theirs (hex "02 05 00 00 FD EA 00 07 00 09") 4 0 0 [] ∷
    message in_up 3072 2048 (ip 10 0 0 0 ∷ ours ∷ 255 ∷ []) theirs (hex "02 02 00 00 7D E4 00 07 00 09 00 00 80 09 00 00") 0 22 0
    (hex "02 01 00 01 79 D8 00 09 00 09 01 00 80 09 00 00 00 01 01 FF 01 0A") ∷
    []

-- 16 from the writer. 01: "The writer refuses 16 for a field the reader would refuse or never gives, more than 128
-- rows, or an internal row after an external one."
use Rattle.std.specs.Prelude.{ℕ, List, [], ◌∷◌}
use Rattle.message.specs.declared.Message.{Message}
use Rattle.message.specs.declared.Message.TheVariants.{Request, Confirm, Refuse, Cease, CeaseAck, Hello, IHeardYou, Poll, Update, Error}
use Rattle.gateway_check_sheet.specs.Given.{repeated, ip, common, theirs}
use Rattle.gateway_check_sheet.specs.Line.{Line, writing}

-- a meaning with the numbers of its rows, written whole, of this length
unfoldable pub wrote : Message → List ℕ → ℕ → Line
wrote m numbers length = writing m numbers 2048 0 length

unfoldable pub unwritten : Message → List ℕ → Line
unwritten m numbers = writing m numbers 2048 16 0

-- U, Update on the common net
unfoldable pub news : Message
news = Update 7 1 1 common

unfoldable pub writings : List Line
writings =
    -- status of Request: "0 to 2"
    wrote (Request 7 1 0 30 120) [] 14 ∷
    wrote (Request 7 1 2 30 120) [] 14 ∷
    unwritten (Request 7 1 3 30 120) [] ∷
    unwritten (Request 7 1 128 30 120) [] ∷
    -- status of Confirm: "0 to 2"
    wrote (Confirm 7 1 0 30 120) [] 14 ∷
    wrote (Confirm 7 1 2 30 120) [] 14 ∷
    unwritten (Confirm 7 1 3 30 120) [] ∷
    unwritten (Confirm 7 1 128 30 120) [] ∷
    -- status of Refuse: "0, 3 to 7"
    wrote (Refuse 7 1 0) [] 10 ∷
    wrote (Refuse 7 1 3) [] 10 ∷
    wrote (Refuse 7 1 7) [] 10 ∷
    unwritten (Refuse 7 1 1) [] ∷
    unwritten (Refuse 7 1 2) [] ∷
    unwritten (Refuse 7 1 8) [] ∷
    -- status of Cease: "0, 3 to 7"
    wrote (Cease 7 1 0) [] 10 ∷
    wrote (Cease 7 1 3) [] 10 ∷
    wrote (Cease 7 1 7) [] 10 ∷
    unwritten (Cease 7 1 1) [] ∷
    unwritten (Cease 7 1 2) [] ∷
    unwritten (Cease 7 1 8) [] ∷
    -- status of CeaseAck: "0, 3 to 7"
    wrote (CeaseAck 7 1 0) [] 10 ∷
    wrote (CeaseAck 7 1 3) [] 10 ∷
    wrote (CeaseAck 7 1 7) [] 10 ∷
    unwritten (CeaseAck 7 1 1) [] ∷
    unwritten (CeaseAck 7 1 2) [] ∷
    unwritten (CeaseAck 7 1 8) [] ∷
    -- status of Hello: "0 to 2"
    wrote (Hello 7 1 0) [] 10 ∷
    wrote (Hello 7 1 2) [] 10 ∷
    unwritten (Hello 7 1 3) [] ∷
    unwritten (Hello 7 1 128) [] ∷
    -- status of IHeardYou: "0 to 2"
    wrote (IHeardYou 7 1 0) [] 10 ∷
    wrote (IHeardYou 7 1 2) [] 10 ∷
    unwritten (IHeardYou 7 1 3) [] ∷
    unwritten (IHeardYou 7 1 128) [] ∷
    -- status of Poll: "0 to 2"
    wrote (Poll 7 1 0 common) [] 16 ∷
    wrote (Poll 7 1 2 common) [] 16 ∷
    unwritten (Poll 7 1 3 common) [] ∷
    unwritten (Poll 7 1 128 common) [] ∷
    -- status of Update: "0 to 2, also plus 128"
    wrote (Update 7 1 0 common) [] 16 ∷
    wrote (Update 7 1 2 common) [] 16 ∷
    wrote (Update 7 1 128 common) [] 16 ∷
    wrote (Update 7 1 130 common) [] 16 ∷
    unwritten (Update 7 1 3 common) [] ∷
    unwritten (Update 7 1 127 common) [] ∷
    unwritten (Update 7 1 131 common) [] ∷
    -- status of Error: "0 to 2, also plus 128"
    wrote (Error 7 1 0 1 2 3 4) [] 24 ∷
    wrote (Error 7 1 2 1 2 3 4) [] 24 ∷
    wrote (Error 7 1 128 1 2 3 4) [] 24 ∷
    wrote (Error 7 1 130 1 2 3 4) [] 24 ∷
    unwritten (Error 7 1 3 1 2 3 4) [] ∷
    unwritten (Error 7 1 127 1 2 3 4) [] ∷
    unwritten (Error 7 1 131 1 2 3 4) [] ∷
    -- any AS, number, interval, Poll net, Error reason and words
    wrote (Hello 0 0 0) [] 10 ∷
    wrote (Hello 65535 65535 0) [] 10 ∷
    wrote (Request 7 1 0 0 65535) [] 14 ∷
    wrote (Poll 7 1 0 (ip 255 255 255 255)) [] 16 ∷
    wrote (Error 7 1 0 65535 0 0 0) [] 24 ∷
    -- rows beside another kind, which the reader never gives
    unwritten (Hello 7 1 0) (ip 10 0 0 0 ∷ theirs ∷ 0 ∷ []) ∷
    unwritten (Poll 7 1 0 common) (ip 10 0 0 0 ∷ theirs ∷ 0 ∷ []) ∷
    -- the Update's net
    unwritten (Update 7 1 1 (ip 224 0 0 0)) [] ∷
    unwritten (Update 7 1 1 (ip 128 9 0 1)) [] ∷
    wrote (Update 7 1 1 (ip 223 255 255 0)) [] 16 ∷
    wrote (Update 7 1 1 0) (0 ∷ 0 ∷ 0 ∷ []) 23 ∷
    -- a row's net
    wrote news (ip 10 0 0 0 ∷ theirs ∷ 0 ∷ ip 192 5 6 0 ∷ theirs ∷ 0 ∷ []) 25 ∷
    unwritten news (ip 10 0 0 1 ∷ theirs ∷ 0 ∷ []) ∷
    unwritten news (ip 192 5 6 1 ∷ theirs ∷ 0 ∷ []) ∷
    unwritten news (ip 224 0 0 0 ∷ theirs ∷ 0 ∷ []) ∷
    -- a row's gateway: on the Update's own net
    wrote news (ip 10 0 0 0 ∷ ip 128 9 255 255 ∷ 0 ∷ []) 22 ∷
    unwritten news (ip 10 0 0 0 ∷ ip 128 10 0 0 ∷ 0 ∷ []) ∷
    unwritten (Update 7 1 1 (ip 10 0 0 0)) (ip 10 0 0 0 ∷ theirs ∷ 0 ∷ []) ∷
    wrote (Update 7 1 1 (ip 10 0 0 0)) (ip 10 0 0 0 ∷ ip 10 0 0 5 ∷ 0 ∷ []) 23 ∷
    -- a row's third number: distance plus 256
    wrote news (ip 10 0 0 0 ∷ theirs ∷ 255 ∷ []) 22 ∷
    wrote news (ip 10 0 0 0 ∷ theirs ∷ 256 ∷ []) 22 ∷
    wrote news (ip 10 0 0 0 ∷ theirs ∷ 511 ∷ []) 22 ∷
    unwritten news (ip 10 0 0 0 ∷ theirs ∷ 512 ∷ []) ∷
    -- "an internal row after an external one"
    wrote news (ip 10 0 0 0 ∷ theirs ∷ 255 ∷ ip 10 0 0 0 ∷ theirs ∷ 256 ∷ []) 28 ∷
    unwritten news (ip 10 0 0 0 ∷ theirs ∷ 256 ∷ ip 10 0 0 0 ∷ theirs ∷ 255 ∷ []) ∷
    -- "more than 128 rows"
    wrote news (repeated 128 (ip 10 0 0 0 ∷ theirs ∷ 0 ∷ [])) 149 ∷
    unwritten news (repeated 129 (ip 10 0 0 0 ∷ theirs ∷ 0 ∷ [])) ∷
    -- whole rows
    unwritten news (ip 10 0 0 0 ∷ []) ∷
    unwritten news (ip 10 0 0 0 ∷ theirs ∷ []) ∷
    unwritten news (ip 10 0 0 0 ∷ theirs ∷ 0 ∷ ip 10 0 0 0 ∷ []) ∷
    []

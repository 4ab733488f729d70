-- Worked fields and messages of a trace. The proofs are in proofs/Cases.antt.
use Rattle.std.specs.Prelude.{ℕ, ◌≡◌, List, [], ◌∷◌, map}
use Rattle.text.specs.Text.{text}
use Rattle.message.specs.declared.Kind.TheVariants as K
use Rattle.message.specs.declared.Message.TheVariants as M
use Rattle.recording_message.specs.Message.{key_size, fields, kind_word, own_fields, message_text}

-- ---- messages; the common net is 128.9.0.0

-- a Hello, the same with another checksum, an Update with one external row: 10.0.0.0 by way of 128.9.0.5, distance 2
unfoldable pub hello : List ℕ
hello = 2 ∷ 5 ∷ 0 ∷ 2 ∷ 253 ∷ 240 ∷ 0 ∷ 7 ∷ 0 ∷ 1 ∷ []

unfoldable pub spoilt : List ℕ
spoilt = 2 ∷ 5 ∷ 0 ∷ 2 ∷ 253 ∷ 241 ∷ 0 ∷ 7 ∷ 0 ∷ 1 ∷ []

unfoldable pub update : List ℕ
update = 2 ∷ 1 ∷ 0 ∷ 1 ∷ 123 ∷ 218 ∷ 0 ∷ 7 ∷ 0 ∷ 1 ∷ 0 ∷ 1 ∷ 128 ∷ 9 ∷ 0 ∷ 0 ∷ 0 ∷ 5 ∷ 1 ∷ 2 ∷ 1 ∷ 10 ∷ []

pub record MessageCases : Type 0 where
  pub size : key_size (text " a= b=") ≡ 3
  pub last_size : key_size (text " a") ≡ 2
  pub two : fields (text " a= b=") (1 ∷ 20 ∷ []) ≡ text " a=1 b=20"
  pub kinds :
      map kind_word (K.Request ∷ K.Confirm ∷ K.Refuse ∷ K.Cease ∷ K.CeaseAck ∷ K.Hello ∷ K.IHeardYou ∷ K.Poll ∷ K.Update ∷ K.Error ∷ [])
      ≡ text "request" ∷ text "confirm" ∷ text "refuse" ∷ text "cease" ∷ text "cease-ack" ∷ text "hello" ∷ text "i-h-u" ∷ text "poll" ∷ text "update" ∷ text "error" ∷ []
  pub request : own_fields (M.Request 7 1 0 30 120) ≡ text " hello=30 poll=120"
  pub confirm : own_fields (M.Confirm 7 1 0 31 121) ≡ text " hello=31 poll=121"
  pub poll : own_fields (M.Poll 7 1 0 2148073472) ≡ text " net=128.9.0.0"
  pub quoted : own_fields (M.Error 7 1 0 2 33 44 55) ≡ text " reason=2 word1=33 word2=44 word3=55"
  -- a message: good, with another checksum, and with a row
  pub good :
      message_text (text " received=") 2148073472 hello
      ≡ text " received=hello reading=0 octets=10 status=2 checksum=65008 right=65008 as=7 sequence=1 rows=0 hex=02050002FDF000070001"
  pub wrong :
      message_text (text " received=") 2148073472 spoilt
      ≡ text " received=refused reading=8 octets=10 status=2 checksum=65009 right=65008 as=7 sequence=1 rows=0 hex=02050002FDF100070001"
  pub outside :
      message_text (text " sent=") 2148073472 update
      ≡ text " sent=update reading=0 octets=22 status=1 checksum=31706 right=31706 as=7 sequence=1 rows=1 net=128.9.0.0 row=10.0.0.0 gw=128.9.0.5 dist=2 side=ext hex=020100017BDA0007000100018009000000050102010A"

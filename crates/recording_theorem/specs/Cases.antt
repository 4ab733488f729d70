-- Worked recordings. The proofs are in proofs/Cases.antt.
use Rattle.std.specs.Prelude.{ℕ, ◌≡◌, true, false, List, ◌++◌}
use Rattle.text.specs.Text.{text}
use Rattle.recording_theorem.specs.Output.{output_of}

-- settings that fresh takes
unfoldable pub head : List ℕ
head = text "ownas=9\nown=128.9.0.1\ncap=1\nnet=128.9.0.0\n"

-- a neighbour is added, and is heard saying Hello while it is Idle
unfoldable pub stray_hello : List ℕ
stray_hello = text "add=128.9.0.5/7\nrx=128.9.0.5/02050001FDE900070009\n"

-- the Cease that it draws, status 7, sequence 0
unfoldable pub drawn : List ℕ
drawn = text "tx=128.9.0.5/02030307FAEC00090000\n"

unfoldable pub idle_listing : List ℕ
idle_listing = text "neighbours=1\nslot=0\naddr=128.9.0.5\nas=7\nstate=idle\nmode=none\nrows=0\nsidle=0\nsacq=0\nsdown=0\nsup=0\nscease=0\n"

pub record PlayedCases : Type 0 where
  -- the first of the four that is bad or missing, alone
  pub empty : output_of false (text "") ≡ text "bad=1\n"
  pub blank : output_of false (text "\n") ≡ text "bad=1\n"
  pub second : output_of false (text "ownas=9\nown=128.9.0\ncap=256\n") ≡ text "bad=2\n"
  pub third : output_of false (text "ownas=9\nown=128.9.0.1\ncap=256\nnet=128.9.0.0\nadd=128.9.0.5/7\n") ≡ text "bad=3\n"
  pub missing : output_of false (text "ownas=9\nown=128.9.0.1\ncap=1\n") ≡ text "bad=4\n"
  pub unended : output_of false (text "ownas=9\nown=128.9.0.1\ncap=1\nnet=128.9.0.0") ≡ text "bad=4\n"
  -- good lines, but fresh refuses: capability 3
  pub refused : output_of false (text "ownas=9\nown=128.9.0.1\ncap=3\nnet=128.9.0.0\nadd=128.9.0.5/7\n") ≡ text "bad=4\n"
  -- nothing happens
  pub eventless : output_of false head ≡ text "neighbours=0\n"
  -- line 5 is good, 6 bad, 7 good though its call is refused, 8 bad since it does not end
  pub some_bad :
      output_of false (head ++ text "add=128.9.0.5/7\nadd=128.9.0.6/08\nadd=128.9.0.5/7\nadd=128.9.0.6/8")
      ≡ text "bad=6\nbad=8\n" ++ idle_listing
  -- a Start, and the Request again after 30 ticks; Stop in Acquisition sends nothing, and its seconds there stay
  pub started :
      output_of false (head ++ text "add=128.9.0.5/7\nstart=128.9.0.5\ntick=128.9.0.5/31\nstop=128.9.0.5\n")
      ≡ text "tx=128.9.0.5/02030001FD5C00090000001E0078\ntx=128.9.0.5/02030001FD5C00090000001E0078\n"
      ++ text "neighbours=1\nslot=0\naddr=128.9.0.5\nas=7\nstate=idle\nmode=none\nrows=0\nsidle=0\nsacq=31\nsdown=0\nsup=0\nscease=0\n"
  -- a Request at an active gateway draws a Confirm and a Hello: two lines, in that order
  pub two_replies :
      output_of false (head ++ text "add=128.9.0.5/7\nrx=128.9.0.5/02030000FCE800070009003C00C8\n")
      ≡ text "tx=128.9.0.5/02030101FC5300090009001E0078\ntx=128.9.0.5/02050002FDEF00090000\n"
      ++ text "neighbours=1\nslot=0\naddr=128.9.0.5\nas=7\nstate=down\nmode=active\nrows=0\nsidle=0\nsacq=0\nsdown=0\nsup=0\nscease=0\n"
  -- a message that is refused draws its reply too: a Refuse to a Request of another AS
  pub refused_reply :
      output_of false (head ++ text "add=128.9.0.5/7\nrx=128.9.0.5/02030000FD51000C0009001E0078\n")
      ≡ text "tx=128.9.0.5/02030204FBE600090009\n" ++ idle_listing
  -- 02, L7: seconds under the state that each found; of one that is removed and added again only those since; a tick of nobody counts nowhere
  pub seconds :
      output_of false (head ++ text "add=128.9.0.5/7\ntick=128.9.0.5/3\nstart=128.9.0.5\ntick=128.9.0.5/5\nstop=128.9.0.5\ntick=128.9.0.5/4\ntick=128.9.0.6/2\n")
      ≡ text "tx=128.9.0.5/02030001FD5C00090000001E0078\n"
      ++ text "neighbours=1\nslot=0\naddr=128.9.0.5\nas=7\nstate=idle\nmode=none\nrows=0\nsidle=7\nsacq=5\nsdown=0\nsup=0\nscease=0\n"
  pub seconds_anew :
      output_of false (head ++ text "add=128.9.0.5/7\ntick=128.9.0.5/3\nremove=128.9.0.5\nadd=128.9.0.5/7\ntick=128.9.0.5/2\n")
      ≡ text "neighbours=1\nslot=0\naddr=128.9.0.5\nas=7\nstate=idle\nmode=none\nrows=0\nsidle=2\nsacq=0\nsdown=0\nsup=0\nscease=0\n"
  -- 02, L6: "Make that the new default"; "`quiet=1`, a line right after `net` which keeps the old behaviour; `quiet=0` may stand there too"
  pub stray : output_of false (head ++ stray_hello) ≡ drawn ++ idle_listing
  pub stray_zero : output_of false (head ++ text "quiet=0\n" ++ stray_hello) ≡ drawn ++ idle_listing
  pub stray_one : output_of false (head ++ text "quiet=1\n" ++ stray_hello) ≡ idle_listing
  -- "any other `quiet` line is a bad event line", and sets nothing: another value, another place, a second one, an unended one
  pub quiet_two : output_of false (head ++ text "quiet=2\n" ++ stray_hello) ≡ text "bad=5\n" ++ drawn ++ idle_listing
  pub quiet_zeros : output_of false (head ++ text "quiet=01\n" ++ stray_hello) ≡ text "bad=5\n" ++ drawn ++ idle_listing
  pub quiet_sixth : output_of false (head ++ text "\nquiet=1\n" ++ stray_hello) ≡ text "bad=5\nbad=6\n" ++ drawn ++ idle_listing
  pub quiet_later : output_of false (head ++ text "add=128.9.0.6/8\nremove=128.9.0.6\nquiet=1\n" ++ stray_hello) ≡ text "bad=7\n" ++ drawn ++ idle_listing
  pub quiet_twice : output_of false (head ++ text "quiet=0\nquiet=1\n" ++ stray_hello) ≡ text "bad=6\n" ++ drawn ++ idle_listing
  pub quiet_kept : output_of false (head ++ text "quiet=1\nquiet=0\n" ++ stray_hello) ≡ text "bad=6\n" ++ idle_listing
  pub quiet_unended : output_of false (head ++ text "quiet=1") ≡ text "bad=5\nneighbours=0\n"
  pub quiet_early : output_of false (text "ownas=9\nown=128.9.0.1\ncap=1\nquiet=1\nnet=128.9.0.0\n") ≡ text "bad=4\n"
  -- fresh's refusal is the fourth line's, whatever the fifth is
  pub refused_quiet : output_of false (text "ownas=9\nown=128.9.0.1\ncap=3\nnet=128.9.0.0\nquiet=1\n") ≡ text "bad=4\n"
  pub refused_bad : output_of false (text "ownas=9\nown=128.9.0.1\ncap=3\nnet=128.9.0.0\nquiet=2\n") ≡ text "bad=4\n"

-- the same with a trace
pub record TracedCases : Type 0 where
  -- a neighbour is added, three seconds go by, it is added again, two go by for nobody, a bad line, it is removed
  pub seconds :
      output_of true (head ++ text "add=128.9.0.5/7\ntick=128.9.0.5/3\nadd=128.9.0.5/7\ntick=128.9.0.6/2\nstop\nremove=128.9.0.5\n")
      ≡ text "line=5 neighbour=128.9.0.5 event=add second=0 answer=0 before=none after=idle mode=none quiet=0 rowsbefore=0 rowsafter=0 registerbefore=0 registerafter=0 peer=7 S=0 R=0 T1=0 T2=0 t1=0 t2=0 t3=0 heard=0 cause=0 sincehello=0 sincepoll=0\n"
      ++ text "line=6 neighbour=128.9.0.5 event=tick second=3 answer=0 before=idle after=idle mode=none quiet=2 rowsbefore=0 rowsafter=0 registerbefore=0 registerafter=0 peer=7 S=0 R=0 T1=0 T2=0 t1=0 t2=0 t3=0 heard=0 cause=0 sincehello=0 sincepoll=0\n"
      ++ text "line=7 neighbour=128.9.0.5 event=add second=3 answer=16 before=idle after=idle mode=none quiet=0 rowsbefore=0 rowsafter=0 registerbefore=0 registerafter=0 peer=7 S=0 R=0 T1=0 T2=0 t1=0 t2=0 t3=0 heard=0 cause=0 sincehello=0 sincepoll=0\n"
      ++ text "line=8 neighbour=128.9.0.6 event=tick second=0 answer=5 before=none after=none mode=none quiet=1 rowsbefore=0 rowsafter=0 registerbefore=0 registerafter=0 peer=0 S=0 R=0 T1=0 T2=0 t1=0 t2=0 t3=0 heard=0 cause=0 sincehello=0 sincepoll=0\n"
      ++ text "bad=9\n"
      ++ text "line=10 neighbour=128.9.0.5 event=remove second=3 answer=0 before=idle after=none mode=none quiet=0 rowsbefore=0 rowsafter=0 registerbefore=0 registerafter=0 peer=7 S=0 R=0 T1=0 T2=0 t1=0 t2=0 t3=0 heard=0 cause=0 sincehello=0 sincepoll=0\n"
      ++ text "neighbours=0\n"
  -- a Start; its Request again at the thirtieth of 32 ticks; a Refuse of another AS
  pub started :
      output_of true (head ++ text "add=128.9.0.5/7\nstart=128.9.0.5\ntick=128.9.0.5/32\nrx=128.9.0.5/02030204FBE8000C0009\n")
      ≡ text "line=5 neighbour=128.9.0.5 event=add second=0 answer=0 before=none after=idle mode=none quiet=0 rowsbefore=0 rowsafter=0 registerbefore=0 registerafter=0 peer=7 S=0 R=0 T1=0 T2=0 t1=0 t2=0 t3=0 heard=0 cause=0 sincehello=0 sincepoll=0\n"
      ++ text "line=6 neighbour=128.9.0.5 event=start second=0 answer=0 before=idle after=acquisition mode=none quiet=0 rowsbefore=0 rowsafter=0 registerbefore=0 registerafter=0 peer=7 S=0 R=0 T1=0 T2=0 t1=30 t2=0 t3=120 heard=0 cause=0 sincehello=0 sincepoll=0 sent=request reading=0 octets=14 status=1 checksum=64860 right=64860 as=9 sequence=0 rows=0 hello=30 poll=120 hex=02030001FD5C00090000001E0078\n"
      ++ text "line=7 neighbour=128.9.0.5 event=tick second=30 answer=0 before=acquisition after=acquisition mode=none quiet=29 rowsbefore=0 rowsafter=0 registerbefore=0 registerafter=0 peer=7 S=0 R=0 T1=0 T2=0 t1=30 t2=0 t3=90 heard=0 cause=0 sincehello=30 sincepoll=30 sent=request reading=0 octets=14 status=1 checksum=64860 right=64860 as=9 sequence=0 rows=0 hello=30 poll=120 hex=02030001FD5C00090000001E0078\n"
      ++ text "line=7 neighbour=128.9.0.5 event=tick second=32 answer=0 before=acquisition after=acquisition mode=none quiet=1 rowsbefore=0 rowsafter=0 registerbefore=0 registerafter=0 peer=7 S=0 R=0 T1=0 T2=0 t1=28 t2=0 t3=88 heard=0 cause=0 sincehello=32 sincepoll=32\n"
      ++ text "line=8 neighbour=128.9.0.5 event=rx second=32 answer=8 before=acquisition after=acquisition mode=none quiet=0 rowsbefore=0 rowsafter=0 registerbefore=0 registerafter=0 peer=7 S=0 R=0 T1=0 T2=0 t1=28 t2=0 t3=88 heard=0 cause=0 sincehello=32 sincepoll=32 received=refused reading=8 octets=10 status=4 checksum=64488 right=64483 as=12 sequence=9 rows=0 hex=02030204FBE8000C0009\n"
      ++ text "neighbours=1\nslot=0\naddr=128.9.0.5\nas=7\nstate=acquisition\nmode=none\nrows=0\nsidle=0\nsacq=32\nsdown=0\nsup=0\nscease=0\n"
  -- ticks that end with their line, and each alone
  pub one_by_one :
      output_of true (head ++ text "tick=128.9.0.5/1\ntick=128.9.0.5/1\n")
      ≡ text "line=5 neighbour=128.9.0.5 event=tick second=0 answer=5 before=none after=none mode=none quiet=0 rowsbefore=0 rowsafter=0 registerbefore=0 registerafter=0 peer=0 S=0 R=0 T1=0 T2=0 t1=0 t2=0 t3=0 heard=0 cause=0 sincehello=0 sincepoll=0\n"
      ++ text "line=6 neighbour=128.9.0.5 event=tick second=0 answer=5 before=none after=none mode=none quiet=0 rowsbefore=0 rowsafter=0 registerbefore=0 registerafter=0 peer=0 S=0 R=0 T1=0 T2=0 t1=0 t2=0 t3=0 heard=0 cause=0 sincehello=0 sincepoll=0\n"
      ++ text "neighbours=0\n"
  -- after a bad setting nothing
  pub broken : output_of true (text "ownas=9\nown=128.9.0\n") ≡ text "bad=2\n"

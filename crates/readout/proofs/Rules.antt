-- What each rule of a poll does to a command's transfer: which bytes it sends, to which phase it leads, and, with a status present, what
-- is due then. This holds for any point `x` from which a rule starts. Assumes nothing.
use mathlib.Core.Path.{◌≡◌, refl, sym, ap, ◌∙◌, subst}
use mathlib.Core.Bool.{Bool, true, false, cond}
use mathlib.Core.List.{List, [], ◌∷◌, ◌++◌, append_assoc, append-nil, flatten}
use Prim.Native.Nat.{ℕ, zero, suc, ◌+◌, ◌-◌, ◌≤◌, ◌<◌, min, zero-le}
use native.Mathlib.Nat.{add-zero, zero-add}
use native.Mathlib.Omega.{arith}
use lib.Dec.{eqb}
use borrow.Table.Steps.{cases}
use borrow.Author.Tests.{eqb-true, eqb-false, le-ltb}
use lib.ListN.{length, take, drop, replicate, length-append, length-replicate}
use lib.Seq.{length-take-le}
use Rattle.std.specs.Prelude.{Option, None, Some}
use Rattle.fields.proofs.Bools.{of_picked, clash}
use Rattle.fields.proofs.Seq.{none_of}
use Rattle.buffer.specs.Buffer.{Buffer, buffer, at, unread, unread_bytes, lacks_room}
use Rattle.buffer.specs.Inner.Buffer.{Sound}
use Rattle.buffer.proofs.Kept.{length_unread}
use Rattle.buffer.proofs.Room.{lacks_by_unread}
use Rattle.answers.specs.declared.Endpoint.{Endpoint}
use Rattle.answers.specs.declared.Endpoint.TheVariants.{Served, Busy, Failed}
use Rattle.answers.specs.Answers.{answer, serves, answered_by}
use Rattle.ring.specs.declared.State.TheVariants.{StatusTransfer, DataTransferToHost, DataTransferToHostStatusAwait, DataTransferFromHost, DataTransferFromHostEnding}
use Rattle.ring.specs.States.{state_number}
use Rattle.wrapper.specs.declared.DataDirection.TheVariants.{Out, In}
use Rattle.wrapper.specs.declared.Wrapper.{Wrapper}
use Rattle.wrapper.specs.Counters.{fallen}
use Rattle.wrapper.specs.Status.{status_number, status_bytes}
use Rattle.wrapper.proofs.Csw.{length_status}
use Rattle.packets.specs.Packets.{handed, takes_one, brought}
use Rattle.device.specs.declared.Device.{Device}
use Rattle.device.specs.declared.Told.{Told}
use Rattle.device.specs.Device.{numbers_of, is_present}
use Rattle.device.specs.Broken.{Whole}
use Rattle.bbb.specs.Poll.{Given, Polling, Point, buffer_of_point, reaching, leaving, ends, send_by, send, send_status, send_data, offered_packet, take_by, take_data, enter_status, status_await_rule, to_host_ending_rule, falls_short, to_host_rule, from_host_ending_rule, from_host_rule, poll_rule, Fits}
use Rattle.bbb.proofs.Keeping.{follows_filled, follows_status, Sizes, poll_sizes}
use Rattle.bbb.proofs.After.{P, in_for, out_for, offered_at, buffer_after, Idle, send_unread, send_sent, send_answer_lem, send_unserved, data_left, fill_exact, topped, stated, stated_unread, stated_sound, take_left, take_taken, take_answer, take_unserved}
use Rattle.calls.specs.Status.{takes_status}
use Rattle.readout.specs.History.{is_served, socket}
use Rattle.readout.specs.Demand.{Full, ceiling, filled_to, data_of}
use Rattle.readout.proofs.Ceiling.{ceiling_none, ceiling_falls}
use Rattle.readout.proofs.Filled.{filled_already, filled_behind, filled_partly}
use Rattle.readout.proofs.Transfer.{Phase, to_host, waiting, to_host_ending, from_host, from_host_ending, sending, due}

-- The bytes that a poll sent, and the packets that it took.
abbrev pub bytes_of : Polling → List ℕ
bytes_of o = take o.sent o.packet

abbrev pub packets_of : Given → Polling → List (List ℕ)
packets_of g o = take o.taken (g.one ∷ g.two ∷ [])

-- The packet buffer holds everything that a poll sent.
pub poll_long : (d : Device) (io : List ℕ) (g : Given) → Whole (numbers_of d) (length io) → Fits d.fixed.packetsize g.packet g.one g.two → length (bytes_of (poll_rule d io g)) ≡ (poll_rule d io g).sent
poll_long d io g whole fits =
    let z : Sizes d (length io) (length g.packet) (poll_rule d io g) = poll_sizes d io g whole fits.into in
    length-take-le (poll_rule d io g).sent (poll_rule d io g).packet (omega (arith, z.sent, z.packet, fits.into))

-- This is 1 for a served poll, and 0 otherwise.
abbrev pub one : Polling → ℕ
one o = cond (is_served o.answer) 1 0

-- The served polls that are due where the status has not been written into the buffer yet.
abbrev pub owing : Point → ℕ
owing x = ceiling x.device.left.0 (P x) + ceiling 13 (P x)

-- The bytes of the packets that a poll took after the first `n`.
abbrev pub later_bytes : ℕ → Given → Polling → List ℕ
later_bytes n g o = flatten (drop n (packets_of g o))

-- Where a poll leads whose outcome is `o`. Before its rule, `k` packets were taken, P was `p`, the status was `st`, `left` bytes were
-- left, and `n` served polls were due.
pub record Leads (w : Wrapper) (got put : List ℕ) (g : Given) (k p : ℕ) (st : Option Told) (left n : ℕ) (o : Polling) : Type 0 where
  pub wrapper : o.device.wrapper ≡ w
  pub status : o.device.status ≡ st
  pub phase : Phase w (got ++ bytes_of o) put o.device.state o.device.status o.device.left.0 (unread_bytes (buffer_after o))
  pub count : is_present st ≡ true → Full (min p left) (packets_of g o) → due (socket o.device o.io) + one o ≡ n
  -- In a state in which a status is taken, left has fallen by the data that crossed the wire.
  pub wire : takes_status (state_number o.device.state) ≡ true → o.device.left.0 ≡ left - (length (bytes_of o) + length (later_bytes k g o))

-- A point with the wrapper `w` and sound marks, in a buffer that can hold a packet and can hold a status.
pub record Fit (w : Wrapper) (x : Point) : Type 0 where
  pub sound : Sound (buffer_of_point x)
  pub some : 0 < P x
  pub packet : P x ≤ length x.io
  pub status : 13 ≤ length x.io
  pub wrapper : x.device.wrapper ≡ w

unserved : (e : Endpoint) → serves e ≡ false → is_served (answered_by e) ≡ false
unfolding is_served
unserved Served h = absurd (clash h)
unserved Busy h = refl
unserved (Failed n) h = refl

-- After the packets that were taken there are no others.
drop_taken : (n : ℕ) (l : List (List ℕ)) → drop n (take n l) ≡ []
drop_taken zero l = refl
drop_taken (suc n) [] = refl
drop_taken (suc n) (x ∷ xs) = drop_taken n xs

no_later : (g : Given) (n : ℕ) → length (flatten (drop n (take n (g.one ∷ g.two ∷ [])))) ≡ 0
unfolding flatten
no_later g n = rw drop_taken

-- Where nothing crosses the wire, left stays.
pub still : (l : ℕ) {n : ℕ} → n ≡ 0 → l ≡ l - (0 + n)
still l none = omega arith

-- One more packet was taken, or none.
later_is : (g : Given) (took : Bool) (n : ℕ) → n ≤ 1 → length (flatten (drop n (take (cond took (n + 1) n) (g.one ∷ g.two ∷ [])))) ≡ cond took (length (offered_packet n g.one g.two)) 0
unfolding flatten offered_packet
later_is g true zero once = rw append-nil
later_is g true (suc zero) once = rw append-nil
later_is g true (suc (suc n)) once = absurd (omega arith)
later_is g false n once = no_later g n

brought_is : (p : ℕ) (e : Endpoint) (packet : List ℕ) (s : Buffer) → brought p e packet s ≡ cond (takes_one p e s) (length packet) 0
unfolding brought takes_one handed
brought_is p e packet s = cases (lacks_room p s) (λ full. rw full) (λ room. cases (serves e) (λ serving. rw (room, serving)) (λ idle. rw (room, idle)))

module _ (w : Wrapper) (got put : List ℕ) (g : Given) where
  -- The packet buffer holds everything that was sent.
  abbrev Long : Polling → Type 0
  Long o = length (bytes_of o) ≡ o.sent

  abbrev Goes : Point → ℕ → Polling → Type 0
  Goes x n o = Long o → Leads w got put g x.taken (P x) x.device.status x.device.left.0 n o

  -- ---- 3

  -- a packet of the status goes out
  module _ (x : Point) (fit : Fit w x) (t : Told) (here : x.device.status ≡ Some t) (in3 : x.device.state ≡ StatusTransfer)
      (all : got ++ unread_bytes (buffer_of_point x) ≡ data_of w.direction w.length put ++ status_bytes w.tag t.residue (status_number t.status)) (some : 0 < length (unread_bytes (buffer_of_point x))) where
    status_falls : Long (send_status g x) → ceiling (length (unread_bytes (buffer_after (send_status g x)))) (P x) + one (send_status g x) ≡ ceiling (length (unread_bytes (buffer_of_point x))) (P x)
    unfolding is_served
    status_falls long =
        let n : ℕ = length (unread_bytes (buffer_of_point x)) in
        let m : ℕ = length (unread_bytes (buffer_after (send_status g x))) in
        let parts : length (bytes_of (send_status g x)) + m ≡ n = sym (length-append (bytes_of (send_status g x)) (unread_bytes (buffer_after (send_status g x)))) ∙ ap length (send_unread false g x fit.sound) in
        let known : n ≡ unread (buffer_of_point x) = length_unread (buffer_of_point x) fit.sound in
        cases (serves (in_for g))
        (λ serving. rw (send_answer_lem false g x serving) (ceiling_falls (P x) n m fit.some some (omega (arith, send_sent false g x serving))))
        (λ idle.
        let e : send_status g x ≡ ends g x (answered_by (in_for g)) = send_unserved false g x idle (λ (none : unread (buffer_of_point x) ≡ 0). omega arith) in
        rw (e, unserved (in_for g) idle) (add-zero _))

    pub leads_status : Goes x (ceiling (length (unread_bytes (buffer_of_point x))) (P x)) (send_status g x)
    unfolding send send_by takes_status
    leads_status long = record {
      wrapper = fit.wrapper;
      status = refl;
      phase = sending t in3 here (append_assoc got (bytes_of (send_status g x)) _ ∙ ap (λ (ys : List ℕ). got ++ ys) (send_unread false g x fit.sound) ∙ all);
      count = λ _ _. rw in3 (status_falls long);
      wire = λ takes. absurd (clash (sym (rw in3 at takes)));
    }

  -- ---- 3, entered, and 5

  module _ (x : Point) (fit : Fit w x) (none : x.device.left.0 ≡ 0) (all : got ≡ data_of w.direction w.length put) where
    fit_stated : Fit w (stated x)
    fit_stated =
        let long : length (stated x).io ≡ length x.io = (follows_status x.device.wrapper.tag x.device.status (buffer_of_point x)).long in
        record { sound = stated_sound x; some = fit.some; packet = rw long fit.packet; status = rw long fit.status; wrapper = fit.wrapper }

    leads_enter : (st : Option Told) → x.device.status ≡ st → is_present st ≡ true → Goes x (owing x) (enter_status g x)
    unfolding enter_status
    leads_enter None here present long = absurd (clash (sym present))
    leads_enter (Some t) here present long =
        let put_in : unread_bytes (buffer_of_point (stated x)) ≡ status_bytes w.tag t.residue (status_number t.status) = stated_unread x t here fit.status ∙ ap (λ (v : Wrapper). status_bytes v.tag t.residue (status_number t.status)) fit.wrapper in
        let thirteen : length (unread_bytes (buffer_of_point (stated x))) ≡ 13 = ap length put_in ∙ length_status w.tag t.residue (status_number t.status) in
        let n : ceiling (length (unread_bytes (buffer_of_point (stated x)))) (P x) ≡ owing x = rw (thirteen, none, ceiling_none (P x) fit.some) (sym (zero-add _)) in
        subst (λ (k : ℕ). Leads w got put g x.taken (P x) x.device.status x.device.left.0 k (enter_status g x)) n
        (leads_status (stated x) fit_stated t here refl (rw (put_in, all)) (omega arith) long)

    leads_wait : is_present x.device.status ≡ false → Goes x (owing x) (ends g (reaching DataTransferToHostStatusAwait x) (answer 0))
    leads_wait absent long = record { wrapper = fit.wrapper; status = refl; phase = waiting refl none (append-nil got ∙ all); count = λ present. absurd (clash (sym present ∙ absent)); wire = λ _. still x.device.left.0 (no_later g x.taken) }

    pub leads_await : Goes x (owing x) (status_await_rule g x)
    unfolding status_await_rule
    leads_await = of_picked (Goes x (owing x)) (is_present x.device.status) (leads_enter x.device.status refl) leads_wait

  -- ---- 6

  module _ (x : Point) (fit : Fit w x) (dir : w.direction ≡ In) (all : got ++ filled_to x.device.left.0 (unread_bytes (buffer_of_point x)) ≡ filled_to w.length put) (few : length (unread_bytes (buffer_of_point x)) ≤ x.device.left.0) where
    module _ (more : x.device.left.0 ≡ 0 → ⊥) where
      left : ℕ
      left = x.device.left.0

      xs : List ℕ
      xs = unread_bytes (buffer_of_point x)

      fill : ℕ
      fill = min left (P x) - unread (buffer_of_point x)

      topped_unread : unread_bytes (buffer_of_point (topped x)) ≡ xs ++ replicate fill 0xFF
      unfolding left xs fill
      topped_unread = fill_exact (P x) x.device.left (buffer_of_point x) fit.sound fit.packet

      topped_sound : Sound (buffer_of_point (topped x))
      topped_sound = (follows_filled (P x) x.device.left (buffer_of_point x) fit.sound).sound

      -- The bytes of the packet, the bytes that are still unread after it, and how many they are.
      topped_split : bytes_of (send_data g (topped x)) ++ unread_bytes (buffer_after (send_data g (topped x))) ≡ xs ++ replicate fill 0xFF
      topped_split = send_unread true g (topped x) topped_sound ∙ topped_unread

      record Figures : Type 0 where
        parts : length (bytes_of (send_data g (topped x))) + length (unread_bytes (buffer_after (send_data g (topped x)))) ≡ length xs + fill
        known : unread (buffer_of_point (topped x)) ≡ length xs + fill
        filled : fill ≡ min left (P x) - length xs
        least : 0 < left
        within : length xs ≤ left

      figures : Figures
      unfolding xs fill left
      figures =
          let long : length (xs ++ replicate fill 0xFF) ≡ length xs + fill = length-append xs (replicate fill 0xFF) ∙ ap (λ (k : ℕ). length xs + k) (length-replicate {A = ℕ} fill 0xFF) in
          record {
            parts = sym (length-append (bytes_of (send_data g (topped x))) _) ∙ ap length topped_split ∙ long;
            known = sym (length_unread (buffer_of_point (topped x)) topped_sound) ∙ ap length topped_unread ∙ long;
            filled = ap (λ (k : ℕ). min x.device.left.0 (P x) - k) (sym (length_unread (buffer_of_point x) fit.sound));
            least = omega (arith, more);
            within = few;
          }

      fill_falls : Long (send_data g (topped x)) → ceiling (send_data g (topped x)).device.left.0 (P x) + ceiling 13 (P x) + one (send_data g (topped x)) ≡ owing x
      unfolding is_served left
      fill_falls long =
          let f : Figures = figures in
          cases (serves (in_for g))
          (λ serving.
          let sent : (send_data g (topped x)).sent ≡ min (P x) left = send_sent true g (topped x) serving ∙ ap (min (P x)) f.known ∙ omega (arith, f.filled, f.within) in
          rw (send_answer_lem true g (topped x) serving)
          (omega (arith, ceiling_falls (P x) left (send_data g (topped x)).device.left.0 fit.some f.least (data_left g (topped x) ∙ omega (arith, sent)))))
          (λ idle.
          let e : send_data g (topped x) ≡ ends g (topped x) (answered_by (in_for g)) = send_unserved true g (topped x) idle (λ (none : unread (buffer_of_point (topped x)) ≡ 0). omega (arith, f.known, f.filled, f.least, fit.some)) in
          rw (e, unserved (in_for g) idle) (add-zero _))

      fill_bytes : (l : ℕ) → l + length (bytes_of (send_data g (topped x))) ≡ left → (got ++ bytes_of (send_data g (topped x))) ++ filled_to l (unread_bytes (buffer_after (send_data g (topped x)))) ≡ filled_to w.length put
      unfolding left xs
      fill_bytes l e =
          let ys : List ℕ = bytes_of (send_data g (topped x)) in
          let rest : List ℕ = unread_bytes (buffer_after (send_data g (topped x))) in
          let f : Figures = figures in
          append_assoc got ys (filled_to l rest)
          ∙ ap (λ (zs : List ℕ). got ++ zs)
          (filled_behind _ l left ys rest e
          ∙ ap (filled_to left) topped_split
          ∙ filled_partly _ left fill xs (omega (arith, f.filled)))
          ∙ all

      leads_fill : Goes x (owing x) (send_data g (topped x))
      unfolding send send_by fallen left xs takes_status
      leads_fill long =
          let f : Figures = figures in
          record {
            wrapper = fit.wrapper;
            status = refl;
            phase = to_host_ending refl dir (fill_bytes _ (omega (arith, f.parts, f.filled, long))) (omega (arith, f.parts, f.filled, long));
            count = λ _ _. fill_falls long;
            wire = λ takes. absurd (clash (sym takes));
          }

    -- Where nothing is left nothing is unread, and the host got all its data.
    all_got : x.device.left.0 ≡ 0 → got ≡ data_of w.direction w.length put
    all_got none =
        let done : filled_to x.device.left.0 (unread_bytes (buffer_of_point x)) ≡ [] =
        filled_already _ x.device.left.0 (unread_bytes (buffer_of_point x)) (omega arith) ∙ none_of (unread_bytes (buffer_of_point x)) (omega arith) in
        rw dir (sym (append-nil got) ∙ ap (λ (ys : List ℕ). got ++ ys) (sym done) ∙ all)

    pub leads_to_ending : is_present x.device.status ≡ true → Goes x (owing x) (to_host_ending_rule g x)
    unfolding to_host_ending_rule
    leads_to_ending present =
        of_picked (Goes x (owing x)) (eqb x.device.left.0 0)
        (λ e. let none : x.device.left.0 ≡ 0 = eqb-true _ _ e in leads_enter x fit none (all_got none) x.device.status refl present)
        (λ e. leads_fill (eqb-false _ _ e))

  -- ---- 4

  module _ (x : Point) (fit : Fit w x) (dir : w.direction ≡ In) (same : got ++ unread_bytes (buffer_of_point x) ≡ put) (sum : x.device.left.0 + length got ≡ w.length) (few : length put ≤ w.length) where
    unread_few : length (unread_bytes (buffer_of_point x)) ≤ x.device.left.0
    unread_few = omega (arith, length-append got (unread_bytes (buffer_of_point x)), ap length same)

    to_fill : got ++ filled_to x.device.left.0 (unread_bytes (buffer_of_point x)) ≡ filled_to w.length put
    to_fill = filled_behind _ x.device.left.0 w.length got (unread_bytes (buffer_of_point x)) sum ∙ ap (filled_to w.length) same

    module _ (absent : is_present x.device.status ≡ false) where
      leads_rest : Goes x (owing x) (ends g (reaching DataTransferToHost x) (answer 4))
      leads_rest long = record {
        wrapper = fit.wrapper;
        status = refl;
        phase = to_host refl dir (rw append-nil same) (rw append-nil sum);
        count = λ present. absurd (clash (sym present ∙ absent));
        wire = λ _. still x.device.left.0 (no_later g x.taken);
      }

      leads_data : Goes x (owing x) (send_data g (reaching DataTransferToHost x))
      unfolding send send_by fallen
      leads_data long =
          let y : Point = reaching DataTransferToHost x in
          let ys : List ℕ = bytes_of (send_data g y) in
          let rest : List ℕ = unread_bytes (buffer_after (send_data g y)) in
          let split : ys ++ rest ≡ unread_bytes (buffer_of_point x) = send_unread true g y fit.sound in
          let parts : length ys + length rest ≡ length (unread_bytes (buffer_of_point x)) = sym (length-append ys rest) ∙ ap length split in
          let none : length (later_bytes x.taken g (send_data g y)) ≡ 0 = no_later g x.taken in
          record {
            wrapper = fit.wrapper;
            status = refl;
            phase = to_host refl dir (append_assoc got ys rest ∙ ap (λ (zs : List ℕ). got ++ zs) split ∙ same) (omega (arith, length-append got ys, unread_few));
            count = λ present. absurd (clash (sym present ∙ absent));
            wire = λ _. ap (λ (n : ℕ). x.device.left.0 - n) (omega (arith, none, long));
          }

    pub leads_to : Goes x (owing x) (to_host_rule g x)
    unfolding to_host_rule
    leads_to =
        of_picked (Goes x (owing x)) (eqb x.device.left.0 0)
        (λ e. let none : x.device.left.0 ≡ 0 = eqb-true _ _ e in leads_await x fit none (all_got x fit dir to_fill unread_few none))
        (λ _. of_picked (Goes x (owing x)) (is_present x.device.status) (leads_to_ending x fit dir to_fill unread_few)
        (λ absent. of_picked (Goes x (owing x)) (falls_short (P x) x.device.left (unread (buffer_of_point x))) (λ _. leads_rest absent) (λ _. leads_data absent)))

  -- ---- 8 and 7

  module _ (x : Point) (fit : Fit w x) (dir : w.direction ≡ Out) (none : got ≡ []) where
    no_data : got ≡ data_of w.direction w.length put
    no_data = rw dir none

    -- The point at which the rule of 8 reads a packet.
    abbrev dropped : Point
    dropped = reaching DataTransferFromHostEnding (leaving (buffer x.io (at 0 0)) x)

    module _ (first : x.taken ≡ 0) (small : length g.one ≤ P x) (more : x.device.left.0 ≡ 0 → ⊥) where
      drop_falls : Full (min (P x) x.device.left.0) (packets_of g (take_data g dropped)) → ceiling (take_data g dropped).device.left.0 (P x) + ceiling 13 (P x) + one (take_data g dropped) ≡ owing x
      unfolding is_served offered_packet
      drop_falls full =
          let sound : Sound (buffer_of_point dropped) = record { order = zero-le; within = zero-le } in
          let it_is : offered_at g dropped ≡ g.one = rw first in
          let fits : length (offered_at g dropped) ≤ P x = rw it_is small in
          let room : lacks_room (P x) (buffer_of_point dropped) ≡ false = lacks_by_unread (P x) (buffer_of_point dropped) sound ∙ le-ltb (length x.io - 0) (P x) (omega (arith, fit.packet)) in
          cases (serves (out_for g dropped))
          (λ serving.
          let whole : length g.one ≡ min (P x) x.device.left.0 = (rw (take_taken g dropped sound fits room serving, first) at full).0 in
          rw (take_answer g dropped sound fits room serving)
          (omega (arith, ceiling_falls (P x) x.device.left.0 (take_data g dropped).device.left.0 fit.some (omega (arith, more)) (take_left g dropped sound fits room serving ∙ rw it_is (omega (arith, whole))))))
          (λ idle.
          let u : ((take_data g dropped).answer ≡ answered_by (out_for g dropped)) × Idle g dropped (take_data g dropped) = take_unserved g dropped sound fits room idle in
          let kept : (take_data g dropped).device.left.0 ≡ x.device.left.0 = ap (λ (d : Device). d.left.0) u.1.device in
          rw (u.0, unserved (out_for g dropped) idle, kept) (add-zero _))

      leads_drop : Goes x (owing x) (take_data g dropped)
      unfolding take_data take_by takes_status
      leads_drop long = record { wrapper = fit.wrapper; status = refl; phase = from_host_ending refl dir (append-nil got ∙ none); count = λ _. drop_falls; wire = λ takes. absurd (clash (sym takes)) }

    pub leads_from_ending : x.taken ≡ 0 → length g.one ≤ P x → is_present x.device.status ≡ true → Goes x (owing x) (from_host_ending_rule g x)
    unfolding from_host_ending_rule
    leads_from_ending first small present =
        of_picked (Goes x (owing x)) (eqb x.device.left.0 0)
        (λ e. leads_enter x fit (eqb-true _ _ e) no_data x.device.status refl present)
        (λ e. leads_drop first small (eqb-false _ _ e))

    leads_take : x.taken ≤ 1 → is_present x.device.status ≡ false → Goes x (owing x) (take_data g (reaching DataTransferFromHost x))
    unfolding take_data take_by fallen
    leads_take once absent long = record {
      wrapper = fit.wrapper;
      status = refl;
      phase = from_host refl dir (append-nil got ∙ none);
      count = λ present. absurd (clash (sym present ∙ absent));
      wire = λ _. ap (λ (n : ℕ). x.device.left.0 - n) (brought_is (P x) (out_for g x) (offered_at g x) (buffer_of_point x) ∙ sym (zero-add _ ∙ later_is g (takes_one (P x) (out_for g x) (buffer_of_point x)) x.taken once));
    }

    -- With a status present the poll has taken no packet before; without one it has taken at most one.
    pub leads_from : (is_present x.device.status ≡ true → x.taken ≡ 0) → x.taken ≤ 1 → length g.one ≤ P x → Goes x (owing x) (from_host_rule g x)
    unfolding from_host_rule
    leads_from first once small =
        of_picked (Goes x (owing x)) (eqb x.device.left.0 0)
        (λ e. leads_await x fit (eqb-true _ _ e) no_data)
        (λ _. of_picked (Goes x (owing x)) (is_present x.device.status) (λ present. leads_from_ending (first present) small present) (leads_take once))

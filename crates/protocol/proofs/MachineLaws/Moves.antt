-- How the controller's step ends a download, at every settings, book, state and reply: each ending exactly when document 01 says
-- so of the reply's bytes. What follows else stands in `MachineLaws/Controller`.
use Rattle.std.specs.Prelude.{ℕ, ◌-◌, ◌≡◌, Bool, true, false, not, List, [], ◌∷◌, ◌↔◌, length, drop}
use Rattle.std.proofs.Math.Path.{refl, ap, ap₂}
use Rattle.std.proofs.Common.{sym, ◌∙◌, subst, arith, eq-eqb}
use Rattle.std.proofs.lemmas.Bool.{not-true}
use Rattle.octets.specs.Choice.{◌and◌, ◌or◌}
use Rattle.octets.proofs.Choice.{and_left, and_right, never}
use Rattle.fdl.specs.Contents.{accepted}
use Rattle.fdl.specs.Reading as telegram
use Rattle.book.specs.Contents.{Entry}
use Rattle.protocol.specs.Controller.{Got, nothing, confirmation, diagnosis, positive, negative, other, got_in, Move, after_job, move_by, move_of}
use Rattle.protocol.specs.Endings.{is_done, stops_at}
use Rattle.protocol.specs.Line.{go, stop}
use Rattle.protocol.proofs.MachineLaws.Controller.{is_poll, is_own, own_is, is_foreign, done, past, refused, unanswered, late, strange, After, repeated, polled, written, ended, after}
use Rattle.protocol.proofs.MachineLaws.Got.{framing_takes, got_nothing, got_confirmation_lem, got_diagnosis, got_positive, got_negative_lem}
use Rattle.protocol.specs.Reply.{Sc, Diagnosis, Positive, Negative, Strange}
use Rattle.protocol.specs.Telegrams.{opening_bytes, write_bytes}
use Rattle.protocol.specs.Words.{FramingRefuses}
use Rattle.protocol.specs.declared.controller.Settings.{Settings}
use Rattle.protocol.specs.declared.controller.Job.{Job}
use Rattle.protocol.specs.declared.controller.Job.TheVariants as job
use Rattle.protocol.specs.declared.controller.Controller.TheVariants as controller
use Rattle.protocol.specs.declared.controller.Ending.{Ending}
use Rattle.protocol.specs.declared.controller.Ending.TheVariants as ending

-- ---- the opening

module _ (c : Settings) (s : List ℕ) where
  -- A fresh controller opens, whatever came.
  pub fresh_opens : (book : List Entry) → move_of c book controller.Fresh s ≡ go (opening_bytes c.printer c.controller) controller.Opening
  unfolding move_of
  fresh_opens book = refl

  without : (book : List Entry) (g : Got) → got_in c s ≡ g → (Diagnosis c s → ⊥) → move_by c book controller.Opening g ≡ stop ending.NoOpening
  without book nothing e n = refl
  without book confirmation e n = refl
  without book diagnosis e n = absurd (n ((got_diagnosis c s).0 e))
  without book (positive slot index len) e n = refl
  without book (negative code1 code2) e n = refl
  without book other e n = refl

  with_diagnosis : (book : List Entry) → Diagnosis c s → move_of c book controller.Opening s ≡ move_by c book controller.Opening diagnosis
  unfolding move_of
  with_diagnosis book d = ap (move_by c book controller.Opening) ((got_diagnosis c s).1 d)

  goes_on : (book : List Entry) → move_by c book controller.Opening diagnosis ≡ stop ending.NoOpening → ⊥
  goes_on [] e = let z : ◌≡◌ {A = ℕ} 0 1 = cc in omega arith
  goes_on (t ∷ ts) e = let z : ◌≡◌ {A = ℕ} 0 1 = cc in omega arith

  -- From the opening, no opening exactly where the reply is not the printer's diagnosis.
  pub no_opening_exactly : (book : List Entry) → move_of c book controller.Opening s ≡ stop ending.NoOpening ↔ (Diagnosis c s → ⊥)
  unfolding move_of
  no_opening_exactly book =
      (λ e d. goes_on book (sym (with_diagnosis book d) ∙ e), without book (got_in c s) refl)

  -- On the diagnosis the first template's write, with FCB 0 and all its repeats; done, where the book has none.
  pub opened_writes : (t : Entry) (ts : List Entry) → Diagnosis c s
      → move_of c (t ∷ ts) controller.Opening s ≡ go (write_bytes c.printer c.controller false t.slot t.body) (controller.Asking 1 job.Write false c.repeats)
  opened_writes t ts d = with_diagnosis (t ∷ ts) d

  pub opened_empty : Diagnosis c s → move_of c [] controller.Opening s ≡ stop ending.Done
  opened_empty d = with_diagnosis [] d

-- ---- a request for template t, at the front of what is left of the book

-- what each reply leads to
module _ (c : Settings) (k : ℕ) (fcb : Bool) (r : ℕ) (t : Entry) (ts : List Entry) where
  none_ends : (j : Job) → after_job c k j fcb 0 (t ∷ ts) nothing ≡ stop (ending.NoAnswer k)
  none_ends job.Write = refl
  none_ends (job.Poll n) = refl

  refusal_ends : (j : Job) (code1 code2 : ℕ) → is_poll j ≡ true → after_job c k j fcb r (t ∷ ts) (negative code1 code2) ≡ stop (ending.Refused k code1 code2)
  refusal_ends job.Write code1 code2 p = absurd (never p)
  refusal_ends (job.Poll n) code1 code2 p = refl

  result_ends : (j : Job) → is_poll j ≡ true → ts ≡ [] → after_job c k j fcb r (t ∷ ts) (positive 1 t.slot (length t.body)) ≡ stop ending.Done
  result_ends job.Write p l = absurd (never p)
  result_ends (job.Poll n) p l = rw (eq-eqb t.slot t.slot refl, eq-eqb (length t.body) (length t.body) refl, l)

  foreign_ends : (j : Job) (g : Got) → is_foreign j (t ∷ ts) g ≡ true → after_job c k j fcb r (t ∷ ts) g ≡ stop (ending.Strange k)
  foreign_ends j nothing f = absurd (never f)
  foreign_ends j confirmation f = absurd (never f)
  foreign_ends job.Write diagnosis f = refl
  foreign_ends (job.Poll n) diagnosis f = refl
  foreign_ends job.Write (positive slot index len) f = refl
  foreign_ends (job.Poll n) (positive slot index len) f = rw (not-true (is_own (t ∷ ts) slot index len) f)
  foreign_ends job.Write (negative code1 code2) f = refl
  foreign_ends (job.Poll n) (negative code1 code2) f = absurd (never f)
  foreign_ends job.Write other f = refl
  foreign_ends (job.Poll n) other f = refl

-- foreign by what was got is strange by its bytes
module _ (c : Settings) (j : Job) (t : Entry) (ts : List Entry) (s : List ℕ) where
  own_result : is_foreign j (t ∷ ts) (positive 1 t.slot (length t.body)) ≡ not (is_poll j)
  own_result = rw (eq-eqb t.slot t.slot refl, eq-eqb (length t.body) (length t.body) refl) (only_poll (is_poll j))
    where
      only_poll : (b : Bool) → not (b and true) ≡ not b
      only_poll true = refl
      only_poll false = refl

  foreign_strange : is_foreign j (t ∷ ts) (got_in c s) ≡ true → Strange c (is_poll j) t s
  foreign_strange f =
      record {
        framed = framing_takes (accepted (telegram.read_of s)) (λ e. never (at ((got_nothing c s).1 e)));
        no_sc = λ e. never (at ((got_confirmation_lem c s).1 e));
        no_refusal = λ p e. never (ap not (sym p) ∙ at ((got_negative_lem c s).1 e));
        no_result = λ p e. never (ap not (sym p) ∙ sym own_result ∙ at ((got_positive c s).1 e));
      }
    where
      at : {g : Got} → got_in c s ≡ g → is_foreign j (t ∷ ts) g ≡ true
      at e = ap (is_foreign j (t ∷ ts)) (sym e) ∙ f

  strange_foreign : (g : Got) → got_in c s ≡ g → Strange c (is_poll j) t s → is_foreign j (t ∷ ts) g ≡ true
  strange_foreign nothing e x = absurd (never (sym ((got_nothing c s).0 e) ∙ x.framed))
  strange_foreign confirmation e x = absurd (x.no_sc ((got_confirmation_lem c s).0 e))
  strange_foreign diagnosis e x = refl
  strange_foreign (positive slot index len) e x = by (is_poll j and is_own (t ∷ ts) slot index len) refl
    where
      by : (b : Bool) → (is_poll j and is_own (t ∷ ts) slot index len) ≡ b → not b ≡ true
      by false q = refl
      by true q =
          let own : Bool = is_own (t ∷ ts) slot index len in
          absurd (x.no_result (and_left (is_poll j) own q) ((got_positive c s).0 (e ∙ own_is t ts slot index len (and_right (is_poll j) own q))))
  strange_foreign (negative code1 code2) e x = by (is_poll j) refl
    where
      by : (b : Bool) → is_poll j ≡ b → not b ≡ true
      by false q = refl
      by true q = absurd (x.no_refusal q ((got_negative_lem c s).0 e))
  strange_foreign other e x = refl

-- what an ending says of the reply
module _ (c : Settings) (k : ℕ) (j : Job) (fcb : Bool) (r : ℕ) (t : Entry) (ts : List Entry) (s : List ℕ) where
  abbrev Why : Move → Type 0
  Why (go q o) = Unit {0}
  Why (stop ending.Done) = (is_poll j ≡ true) × Positive c 1 t.slot (length t.body) s × (ts ≡ [])
  Why (stop ending.NoOpening) = ⊥
  Why (stop (ending.NoAnswer n)) = (n ≡ k) × (FramingRefuses s × (r ≡ 0))
  Why (stop (ending.NotReady n)) = (n ≡ k) × ((j ≡ job.Poll 0) × Sc s)
  Why (stop (ending.Refused n code1 code2)) = (n ≡ k) × ((is_poll j ≡ true) × Negative c code1 code2 s)
  Why (stop (ending.Strange n)) = (n ≡ k) × Strange c (is_poll j) t s

  why : {m : Move} → After c k j fcb r (t ∷ ts) (got_in c s) m → Why m
  why (repeated a b l) = tt
  why (polled p a l) = tt
  why (written p a l) = tt
  why (ended (done {t = u} p a l)) =
      let same : u ≡ t = cc in
      (ap is_poll p, (got_positive c s).0 (a ∙ ap (λ (x : Entry). positive 1 x.slot (length x.body)) same), cc)
  why (ended (past l f)) = absurd (let z : ◌≡◌ {A = ℕ} 0 1 = cc in omega arith)
  why (ended (refused p a)) = (refl, (ap is_poll p, (got_negative_lem c s).0 a))
  why (ended (unanswered a b)) = (refl, ((got_nothing c s).0 a, b))
  why (ended (late p a)) = (refl, (p, (got_confirmation_lem c s).0 a))
  why (ended (strange f)) = (refl, foreign_strange c j t ts s f)

-- the laws, where the template stands in the book, as it does for every state that is not refused (`template_there`)
module _ (c : Settings) (book : List Entry) (k : ℕ) (j : Job) (fcb : Bool) (r : ℕ) (s : List ℕ) {t : Entry} {ts : List Entry} (there : drop (k - 1) book ≡ t ∷ ts) where
  abbrev next : Move
  next = move_of c book (controller.Asking k j fcb r) s

  because : {m : Move} → next ≡ m → Why c k j fcb r t ts s m
  because e = subst (Why c k j fcb r t ts s) e (why c k j fcb r t ts s (rw there at (after c book k j fcb r s)))

  moved : {g : Got} → got_in c s ≡ g → next ≡ after_job c k j fcb r (t ∷ ts) g
  unfolding move_of
  moved e = ap₂ (after_job c k j fcb r) there e

  -- Done exactly where a poll for the last template got the printer's 5F with the write's slot, index and length.
  pub done_exactly : next ≡ stop ending.Done ↔ (is_poll j ≡ true) × Positive c 1 t.slot (length t.body) s × (ts ≡ [])
  done_exactly =
      (because, λ e. moved ((got_positive c s).1 e.1) ∙ result_ends c k fcb r t ts j e.0 e.2)

  -- No answer exactly where framing refuses what came and no repeat is left.
  pub no_answer_exactly : next ≡ stop (ending.NoAnswer k) ↔ FramingRefuses s × (r ≡ 0)
  no_answer_exactly =
      (λ e. (because e).1, λ e. moved ((got_nothing c s).1 e.0) ∙ ap (λ (n : ℕ). after_job c k j fcb n (t ∷ ts) nothing) e.1 ∙ none_ends c k fcb r t ts j)

  -- Not ready exactly where the last poll got SC.
  pub not_ready_exactly : next ≡ stop (ending.NotReady k) ↔ (j ≡ job.Poll 0) × Sc s
  not_ready_exactly =
      (λ e. (because e).1, λ e. moved ((got_confirmation_lem c s).1 e.1) ∙ ap (λ (i : Job). after_job c k i fcb r (t ∷ ts) confirmation) e.0)

  -- Refused with two codes exactly where a poll got the printer's DF with those.
  pub refused_exactly : (code1 code2 : ℕ) → next ≡ stop (ending.Refused k code1 code2) ↔ (is_poll j ≡ true) × Negative c code1 code2 s
  refused_exactly code1 code2 =
      (λ e. (because e).1, λ e. moved ((got_negative_lem c s).1 e.1) ∙ refusal_ends c k fcb r t ts j code1 code2 e.0)

  -- Strange exactly where framing accepts what came, and it is neither SC nor, to a poll, the printer's DF, or its 5F with the
  -- write's slot, index and length.
  pub strange_exactly : next ≡ stop (ending.Strange k) ↔ Strange c (is_poll j) t s
  strange_exactly =
      (λ e. (because e).1, λ x. moved refl ∙ foreign_ends c k fcb r t ts j (got_in c s) (strange_foreign c j t ts s (got_in c s) refl x))

  -- It ends at this template, or done.
  pub ends_here : {e : Ending} → next ≡ stop e → (is_done e or stops_at k e) ≡ true
  ends_here {e} q = by e (because q)
    where
      by : (e : Ending) → Why c k j fcb r t ts s (stop e) → (is_done e or stops_at k e) ≡ true
      by ending.Done w = refl
      by ending.NoOpening w = absurd w
      by (ending.NoAnswer n) w = eq-eqb n k w.0
      by (ending.NotReady n) w = eq-eqb n k w.0
      by (ending.Refused n code1 code2) w = eq-eqb n k w.0
      by (ending.Strange n) w = eq-eqb n k w.0

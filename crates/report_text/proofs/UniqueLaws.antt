-- Where two lines fit, at most one of them stands at the front of the same bytes.
use Rattle.std.proofs.Common.{◌≡◌, ℕ, zero, suc, List, ◌++◌, refl, sym, ap, subst, ◌∙◌}
use Rattle.std.proofs.lemmas.List.{append_cancel_left}
use Rattle.goal_ast.specs.declared.goal.Bound.{Bound}
use Rattle.goal_ast.specs.declared.goal.Mode.{Mode}
use Rattle.goal_ast.specs.declared.goal.Mode.TheVariants.{Lia, Nia}
use Rattle.goal_serve.specs.Line.{Line, Session, Asked, Proved, Clause, Row, Certificate, Refuted, Value, Unsettled, Oversize, IllSorted, Cache, End, line_text}
use Rattle.report_text.specs.declared.call.Call.{Call}
use Rattle.report_text.specs.declared.call.Call.TheVariants.{Find, Store}
use Rattle.report_text.specs.Line.{Plain, Called, call_text}
use Rattle.report_text.specs.Fitting.{Reading, Expect, AtFirst, Between, AtAnswer, AtPlace, AtValue, AtClause, AtRow, AtCall, Over, FitsBetween, FitsAnswer, FitsRow, FitsCalled, FitsPlain, FitsCall}
use Rattle.report_text.specs.Place.{IsAlone}
use Rattle.report_text.proofs.PeelLaws.{apart}
use Rattle.report_text.proofs.AloneLaws.{Same, same_proved, same_place, same_unsettled, same_kind, same_cache, same_session, same_clause, same_row, same_cert, same_asked, same_value, same_call}

-- ---- equal lines

equal : (l m : Line) → l ≡ m → Same l m
equal l m same a b i j e = (same, append_cancel_left (line_text m) a b (sym (ap (λ k. line_text k ++ a) same) ∙ e))

-- ---- by what comes next

between : (r : Reading) (l m : Line) → FitsBetween r l → FitsBetween r m → Same l m
between r (Session n x) (Session p y) f g = same_session n p x y
between r (Session n x) (Asked p l other) f g = λ a b i j e. apart 0 _ _ e refl
between r (Session n x) (Cache l o t s) f g = λ a b i j e. apart 0 _ _ e refl
between r (Session n x) m f g = absurd g
between r (Asked n k goal) (Session p y) f g = λ a b i j e. apart 0 _ _ e refl
between r (Asked n k goal) (Asked p l other) f g = same_asked n p k l goal other
between r (Asked n k goal) (Cache l o t s) f g = λ a b i j e. apart 0 _ _ e refl
between r (Asked n k goal) m f g = absurd g
between r (Cache k o t s) (Session p y) f g = λ a b i j e. apart 0 _ _ e refl
between r (Cache k o t s) (Asked p l other) f g = λ a b i j e. apart 0 _ _ e refl
between r (Cache k o t s) (Cache l p u v) f g = same_cache k l o p t u s v
between r (Cache k o t s) m f g = absurd g
between r l m f g = absurd f

answer : (l m : Line) → FitsAnswer l → FitsAnswer m → Same l m
answer (Proved n) (Proved p) f g = same_proved n p
answer (Proved n) Refuted f g = λ a b i j e. apart 0 _ _ e refl
answer (Proved n) (Unsettled p v) f g = λ a b i j e. apart 0 _ _ e refl
answer (Proved n) (Oversize k) f g = λ a b i j e. apart 0 _ _ e refl
answer (Proved n) m f g = absurd g
answer Refuted (Proved p) f g = λ a b i j e. apart 0 _ _ e refl
answer Refuted Refuted f g = equal Refuted Refuted refl
answer Refuted (Unsettled p v) f g = λ a b i j e. apart 0 _ _ e refl
answer Refuted (Oversize k) f g = λ a b i j e. apart 0 _ _ e refl
answer Refuted m f g = absurd g
answer (Unsettled n w) (Proved p) f g = λ a b i j e. apart 0 _ _ e refl
answer (Unsettled n w) Refuted f g = λ a b i j e. apart 0 _ _ e refl
answer (Unsettled n w) (Unsettled p v) f g = same_unsettled n p w v
answer (Unsettled n w) (Oversize k) f g = λ a b i j e. apart 0 _ _ e refl
answer (Unsettled n w) m f g = absurd g
answer (Oversize k) (Proved p) f g = λ a b i j e. apart 0 _ _ e refl
answer (Oversize k) Refuted f g = λ a b i j e. apart 0 _ _ e refl
answer (Oversize k) (Unsettled p v) f g = λ a b i j e. apart 0 _ _ e refl
answer (Oversize k) (Oversize l) f g = same_kind k l
answer (Oversize k) m f g = absurd g
answer l m f g = absurd f

place : (l m : Line) → ((at : ℕ) × (l ≡ IllSorted at)) → ((at : ℕ) × (m ≡ IllSorted at)) → Same l m
place l m f g = subst (λ l. Same l m) (sym f.1) (subst (λ m. Same (IllSorted f.0) m) (sym g.1) (same_place f.0 g.0))

value : (r : Reading) (bound : Bound) (others : List Bound) (l m : Line) → FitsPlain r (AtValue bound others) l → FitsPlain r (AtValue bound others) m → Same l m
value r bound others (Value b y) (Value c z) f g =
    subst (λ b. Same (Value b y) (Value c z)) (sym f) (subst (λ c. Same (Value bound y) (Value c z)) (sym g) (same_value bound y z))
value r bound others (Value b y) m f g = absurd g
value r bound others l m f g = absurd f

clause : (r : Reading) (k others : ℕ) (l m : Line) → FitsPlain r (AtClause k others) l → FitsPlain r (AtClause k others) m → Same l m
clause r k others (Clause n x o) (Clause p y q) f g = same_clause n p x y o q
clause r k others (Clause n x o) m f g = absurd g
clause r k others l m f g = absurd f

row : (rows : ℕ) (l m : Line) → FitsRow rows l → FitsRow rows m → Same l m
row rows (Row r) (Row s) f g = same_row r s
row rows (Row r) (Certificate d) f g = λ a b i j e. apart 0 _ _ e refl
row rows (Row r) m f g = absurd g
row rows (Certificate c) (Row s) f g = λ a b i j e. apart 0 _ _ e refl
row rows (Certificate c) (Certificate d) f g = same_cert c d
row rows (Certificate c) m f g = absurd g
row rows l m f g = absurd f

called : (mode : Mode) (l m : Line) → FitsCalled mode l → FitsCalled mode m → Same l m
called Lia (Cache k o t s) (Cache l p u v) f g = same_cache k l o p t u s v
called Lia (Cache k o t s) m f g = absurd g
called Lia l m f g = absurd f
called Nia End End f g = equal End End refl
called Nia End m f g = absurd g
called Nia l m f g = absurd f

plain : (r : Reading) (expect : Expect) (l m : Line) → FitsPlain r expect l → FitsPlain r expect m → Same l m
plain r AtFirst l m f g = equal l m (f ∙ sym g)
plain r Between l m f g = between r l m f g
plain r (AtAnswer vars) l m f g = answer l m f g
plain r AtPlace l m f g = place l m f g
plain r (AtValue bound others) l m f g = value r bound others l m f g
plain r (AtClause k others) l m f g = clause r k others l m f g
plain r (AtRow k rows others) l m f g = row rows l m f g
plain r (AtCall mode zero) l m f g = called mode l m f g
plain r (AtCall mode (suc stores)) l m f g = absurd f
plain r Over l m f g = absurd f

-- ---- a line and a call

call_apart : {A : Type 0} (mode : Mode) (l : Line) (c : Call) (a b : List ℕ) → FitsCalled mode l → line_text l ++ a ≡ call_text c ++ b → A
call_apart Lia (Cache k o t s) (Find p q n f h) a b fits e = apart 0 _ _ e refl
call_apart Lia (Cache k o t s) (Store p q n f) a b fits e = apart 0 _ _ e refl
call_apart Lia l c a b fits e = absurd fits
call_apart Nia End (Find p q n f h) a b fits e = apart 0 _ _ e refl
call_apart Nia End (Store p q n f) a b fits e = apart 0 _ _ e refl
call_apart Nia l c a b fits e = absurd fits

mixed : {A : Type 0} (r : Reading) (expect : Expect) (l : Line) (c : Call) (a b : List ℕ) → FitsPlain r expect l → FitsCall expect c
    → line_text l ++ a ≡ call_text c ++ b → A
mixed r (AtCall mode zero) l c a b f g e = call_apart mode l c a b f e
mixed r (AtCall mode (suc stores)) l c a b f g e = absurd f
mixed r AtFirst l c a b f g e = absurd g
mixed r Between l c a b f g e = absurd g
mixed r (AtAnswer vars) l c a b f g e = absurd g
mixed r AtPlace l c a b f g e = absurd g
mixed r (AtValue bound others) l c a b f g e = absurd g
mixed r (AtClause k others) l c a b f g e = absurd g
mixed r (AtRow k rows others) l c a b f g e = absurd g
mixed r Over l c a b f g e = absurd g

pub alone : IsAlone
alone r (Plain l) (Plain m) a b i j f g e = let p = plain r r.expect l m f g a b i j e in (ap Plain p.0, p.1)
alone r (Plain l) (Called d) a b i j f g e = mixed r r.expect l d a b f g e
alone r (Called c) (Plain m) a b i j f g e = mixed r r.expect m c b a g f (sym e)
alone r (Called c) (Called d) a b i j f g e = let p = same_call c d a b i j e in (ap Called p.0, p.1)

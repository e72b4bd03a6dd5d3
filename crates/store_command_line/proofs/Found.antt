-- The subcommand that a parse entered, from what the getters say.
use Rattle.std.proofs.Common.{◌≡◌, ◌∙◌, ◌∷◌, ℕ, Bool, true, false, List, [], Option, Some, None, ap, sym, subst, codes, inl, inr, refl, rules, map, arith}
use Rattle.std.specs.Borrow.{Bor}
use Rattle.std.specs.Prelude.{All, option_map, IfErr, IfSome, OnOk, Result, Ok, Err}
use Rattle.std.proofs.Math.ListN.{get_or-map, length-map}
use Rattle.std.proofs.lemmas.List.Elements.{All-map}
use Rattle.b3_check.specs.Names.{IsName}
use Rattle.store_command_line.specs.CommandLine.{AsksVersion, IsTaken, MayAskVersion, command_line}
use Rattle.store_command_line.specs.Ranges.{AreNamed, IsWithin}
use Rattle.store_command_line.specs.Stated.{IsFaultAt, SaysFlag, SaysInputs, SaysNumber, SpellsOr}
use Rattle.store_command_line.specs.declared.said.Fault.{Fault}
use Rattle.store_command_line.specs.declared.said.Fault.TheVariants.{NoMemory, Usage, Version}
use Rattle.store_command_line.specs.inner.Faults.{IsNoVersion, ReportsKind}
use Rattle.store_command_line.specs.declared.said.SumInputs.{SumInputs}
use Rattle.store_command_line.specs.declared.said.SumInputs.TheVariants.{Standard, Named, Listed}
use Rattle.clap.specs.Words.{App, HasKind, IsAmong, Row, Text, fault_of, is_simple_and_free, kind_of, subcommand_name_of, subcommand_of, subcommand_rows_of}
use Rattle.clap.specs.declared.error.Error.{Error}
use Rattle.clap.specs.declared.error.kind.ErrorKind.TheVariants as kinds
use Rattle.clap.specs.declared.parser.matches.ArgMatches.{ArgMatches}

names : (m : ArgMatches) → subcommand_name_of m ≡ option_map (λ p. p.0) (subcommand_rows_of m)
names m = search rules

-- of a pair that may be there, from what its parts are
two_maps : {A : Type 0} (f : A → Text) (g : A → List Row) (r : Option A) (s : Option (Text × List Row)) → option_map f r ≡ option_map (λ p. p.0) s → option_map g r ≡ option_map (λ p. p.1) s
    → option_map (λ a. (f a, g a)) r ≡ s
two_maps f g None None a b = refl
two_maps f g None (Some (n, rows)) a b = cc
two_maps f g (Some x) None a b = cc
two_maps f g (Some x) (Some (n, rows)) a b = cc

-- the subcommand that a parse entered, from what its getter says
pub entered_as : {A : Type 0} (f : A → Text) (g : A → List Row) (r : Option A) (m : ArgMatches) → option_map f r ≡ subcommand_name_of m → option_map g r ≡ option_map (λ p. p.1) (subcommand_rows_of m)
    → option_map (λ a. (f a, g a)) r ≡ subcommand_rows_of m
entered_as f g r m name rows = two_maps f g r (subcommand_rows_of m) (name ∙ names m) rows

-- what a parse entered is what the words enter
pub entered_by : (a : App) (words : List Text) (m : ArgMatches) → a ≡ command_line → subcommand_rows_of m ≡ subcommand_of a words → subcommand_rows_of m ≡ subcommand_of command_line words
entered_by a words m shape matches = matches ∙ ap (λ (b : App). subcommand_of b words) shape

pub on_ok : {T E : Type 0} (r : Result T E) (P : Type 0) → P → OnOk r P
on_ok (Ok x) P p = p
on_ok (Err e) P p = tt

-- what a flag's getter says is what clap keeps of it
pub says_flag : (o : Option Text) (b : Bool) → (o ≡ None → b ≡ false) → (o ≡ Some (codes "true") → b ≡ true) → (o ≡ Some (codes "false") → b ≡ false) → SaysFlag o b
says_flag None b none on off = none refl
says_flag (Some t) b none on off = (λ e. on (ap Some e), λ e. off (ap Some e))

-- words that clap takes, from what a parse says
pub taken : (a : App) (words : List Text) → a ≡ command_line → (is_simple_and_free a ≡ true → fault_of a words ≡ []) → IsTaken words
unfolding IsTaken
taken a words shape fits = ap (λ (b : App). fault_of b words) (sym shape) ∙ fits (ap is_simple_and_free shape)

-- at such words a parse fails only when out of memory
pub memory : (a : App) (words : List Text) (e : Error) → a ≡ command_line → (is_simple_and_free a ≡ true → HasKind (fault_of a words) e) → IsTaken words → kind_of e ≡ kinds.OutOfMemory
unfolding IsTaken
memory a words e shape fails is = go (subst (λ ks. HasKind ks e) (ap (λ (b : App). fault_of b words) shape ∙ is) (fails (ap is_simple_and_free shape)))
  where
    go : HasKind [] e → kind_of e ≡ kinds.OutOfMemory
    go (inl h) = h
    go (inr h) = absurd h

-- what is reported where a parse fails
pub reported_at : (a : App) (words : List Text) (e : Error) (fault : Fault) → a ≡ command_line → (is_simple_and_free a ≡ true → HasKind (fault_of a words) e)
    → (kind_of e ≡ kinds.OutOfMemory → fault ≡ NoMemory) → ReportsKind (kind_of e) fault → IsFaultAt words fault
unfolding AsksVersion MayAskVersion
reported_at a words e fault shape fails short reports = go fault (subst (λ ks. HasKind ks e) (ap (λ (b : App). fault_of b words) shape) (fails (ap is_simple_and_free shape))) short reports
  where
    go : (f : Fault) → HasKind (fault_of command_line words) e → (kind_of e ≡ kinds.OutOfMemory → f ≡ NoMemory) → ReportsKind (kind_of e) f → IsFaultAt words f
    go (Version t) (inl h) short reports = absurd (cc)
    go (Version t) (inr h) short reports = subst (λ k. IsAmong k (fault_of command_line words)) reports h
    go (Usage t) (inl h) short reports = absurd (let is = short h in cc)
    go (Usage t) (inr h) short reports = λ asks. none (subst (IsAmong (kind_of e)) asks h)
      where
        none : IsAmong (kind_of e) (kinds.DisplayVersion ∷ []) → ⊥
        none (inl is) = reports is
        none (inr impossible) = impossible
    go NoMemory h short reports = tt

-- what is reported where it doesn't
pub reported_by : {T : Type 0} (r : Result T Fault) (words : List Text) → IsTaken words → IfErr r IsNoVersion → IfErr r (IsFaultAt words)
unfolding IsTaken AsksVersion MayAskVersion
reported_by (Ok x) words is reports = tt
reported_by (Err (Version t)) words is reports = absurd reports
reported_by (Err (Usage t)) words is reports = λ asks. cc
reported_by (Err NoMemory) words is reports = tt

-- what follows of the number that is spelled, where one is given
pub spelled_or : (most other n : ℕ) (o : Option Text) (P : Type 0) → SpellsOr other o n → IsWithin most n → ((m : Option ℕ) → SaysNumber o m → IfSome m (IsWithin most) → P) → P
spelled_or most other n None P spells within f = f None tt tt
spelled_or most other n (Some t) P spells within f = f (Some n) spells within

-- ---- the names of files

abbrev following : List (Bor Text) → List Text
following = map (λ t. t.now)

each_after : (P : Text → Type 0) (texts : List (Bor Text)) → All P (following texts) → All (λ t. P t.now) texts
each_after P texts h = λ k d lt. subst P (get_or-map (λ (t : Bor Text). t.now) texts k d) (h k d.now (omega (arith, length-map texts (λ (t : Bor Text). t.now))))

named_too : (P : Text → Type 0) (names texts : List (Bor Text)) → following names ≡ following texts → All (λ n. P n.now) names → All (λ t. P t.now) texts
named_too P names texts same h = each_after P texts (subst (All P) same (All-map P (λ (n : Bor Text). n.now) names h))

-- where words without an option are given, only their names are hashed
pub only_named : (i : SumInputs) (files : Option (List Text)) (said list null : Option Text) (texts : List (Bor Text)) (P : Type 0)
    → files ≡ Some (following texts) → SaysInputs i files said list null → AreNamed i → (All (λ t. IsName t.now) texts → P) → P
only_named (Standard name) files said list null texts P is says named f = absurd (let none = says.1 in cc)
only_named (Named names) files said list null texts P is says named f = f (let both = says.0 in named_too IsName names.items texts (cc) named)
only_named (Listed l) files said list null texts P is says named f = absurd (let none = says.2 in cc)

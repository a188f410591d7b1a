-- What clap's answer says of the words.
use Rattle.std.proofs.Common.{◌≡◌, ◌≢◌, ◌∙◌, List, [], ◌∷◌, Option, None, true, false, refl, sym, ap, inl, inr}
use Rattle.clap.specs.Words.{App, HasKind, Kinds, Row, Text, fault_of, kind_of, subcommand_of}
use Rattle.clap.specs.declared.error.Error.{Error}
use Rattle.clap.specs.declared.error.ErrorKind.TheVariants.{OutOfMemory}
use Rattle.cfn_cli.specs.Request.{command_line, entered_by, is_faultless, is_taken, request_from, request_of}

pub taken : (app : App) (words : List Text) → app ≡ command_line → fault_of app words ≡ [] → is_taken words ≡ true
unfolding is_taken
taken app words is none = ap is_faultless (ap (λ (a : App). fault_of a words) (sym is) ∙ none)

faulty : (kinds : Kinds) (e : Error) → HasKind kinds e → kind_of e ≢ OutOfMemory → is_faultless kinds ≡ false
faulty [] e (inl memory) other = absurd (other memory)
faulty [] e (inr among) other = absurd among
faulty (kind ∷ kinds) e has other = refl

pub refused : (app : App) (words : List Text) (e : Error) → app ≡ command_line → HasKind (fault_of app words) e → kind_of e ≢ OutOfMemory
    → is_taken words ≡ false
unfolding is_taken
refused app words e is has other = ap (λ (a : App). is_faultless (fault_of a words)) (sym is) ∙ faulty (fault_of app words) e has other

pub entered : (app : App) (words : List Text) (met : Option (Text × List Row)) → app ≡ command_line → met ≡ subcommand_of app words
    → entered_by words ≡ met
unfolding entered_by
entered app words met is e = ap (λ (a : App). subcommand_of a words) (sym is) ∙ sym e

pub asked : (words : List Text) (met : Option (Text × List Row)) → is_taken words ≡ true → entered_by words ≡ met
    → request_of words ≡ request_from met
asked words met takes enters = rw (takes, enters) refl

pub not_asked : (words : List Text) → is_taken words ≡ false → request_of words ≡ None
not_asked words fails = rw fails refl

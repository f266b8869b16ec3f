-- Steps: what the pieces of a message are once they are filled, and which slots a message has a text for: this project's own.
use Rattle.std.specs.Prelude.{Bool, true, false, ◌||◌, ℕ, nat_eq, List, [], ◌∷◌, decimal}
use Rattle.kc_tree.specs.declared.node.Node.{Node}
use Rattle.kc_lines.specs.declared.loop_step.Way.{Way}
use Rattle.kc_lines.specs.declared.loop_step.Way.TheVariants as way
use Rattle.kc_explain.specs.declared.messages.ConfigMessage.{ConfigMessage}
use Rattle.kc_explain.specs.declared.messages.ConfigMessage.TheVariants as config
use Rattle.kc_explain.specs.declared.messages.FormMessage.{FormMessage}
use Rattle.kc_explain.specs.declared.messages.FormMessage.TheVariants as form
use Rattle.kc_explain.specs.declared.messages.LineMessage.{LineMessage}
use Rattle.kc_explain.specs.declared.messages.LineMessage.TheVariants as line
use Rattle.kc_explain.specs.declared.messages.RefusalMessage.{RefusalMessage}
use Rattle.kc_explain.specs.declared.messages.RefusalMessage.TheVariants as refusal
use Rattle.kc_explain.specs.declared.messages.ChoiceMessage.{ChoiceMessage}
use Rattle.kc_explain.specs.declared.messages.ChoiceMessage.TheVariants as choice
use Rattle.kc_explain.specs.declared.messages.SymbolMessage.{SymbolMessage}
use Rattle.kc_explain.specs.declared.messages.SymbolMessage.TheVariants as symbol
use Rattle.kc_explain.specs.declared.messages.TextMessage.{TextMessage}
use Rattle.kc_explain.specs.declared.messages.TextMessage.TheVariants as text
use Rattle.kc_explain.specs.declared.piece.Piece.{Piece}
use Rattle.kc_explain.specs.declared.piece.Piece.TheVariants.{Text, Filled}
use Rattle.kc_explain.specs.declared.piece.Slot.{Slot}
use Rattle.kc_explain.specs.declared.piece.Slot.TheVariants as slot
use Rattle.kc_explain.specs.declared.piece.Texts.{Texts}

-- what fills a slot: a number in decimal digits
abbrev pub slot_text : Texts → Slot → List ℕ
slot_text texts slot.Name = texts.name.now
slot_text texts slot.Other = texts.other.now
slot_text texts slot.Kind = texts.kind.now
slot_text texts slot.Word = texts.word.now
slot_text texts slot.Text = texts.text.now
slot_text texts slot.Value = texts.value.now
slot_text texts slot.Wanted = texts.wanted.now
slot_text texts slot.Form = texts.form.now
slot_text texts slot.Place = texts.place.now
slot_text texts slot.List = texts.list.now
slot_text texts slot.Prefix = texts.prefix.now
slot_text texts slot.Path = texts.path.now
slot_text texts slot.Line = decimal texts.line
slot_text texts slot.Number = decimal texts.number
slot_text texts slot.Second = decimal texts.second

-- a piece of a message once it is filled
abbrev pub piece_text : Texts → Piece → List ℕ
piece_text texts (Text t) = t.now
piece_text texts (Filled s) = slot_text texts s

-- the number of a slot, by which slots are compared
abbrev pub slot_number : Slot → ℕ
slot_number slot.Name = 0
slot_number slot.Other = 1
slot_number slot.Kind = 2
slot_number slot.Word = 3
slot_number slot.Text = 4
slot_number slot.Value = 5
slot_number slot.Wanted = 6
slot_number slot.Form = 7
slot_number slot.Place = 8
slot_number slot.List = 9
slot_number slot.Prefix = 10
slot_number slot.Path = 11
slot_number slot.Line = 12
slot_number slot.Number = 13
slot_number slot.Second = 14

abbrev pub is_one_of : List Slot → Slot → Bool
is_one_of [] s = false
is_one_of (t ∷ ts) s = nat_eq (slot_number t) (slot_number s) || is_one_of ts s

-- a piece has no slot but these
abbrev pub fills : List Slot → Piece → Bool
fills slots (Text t) = true
fills slots (Filled s) = is_one_of slots s

-- the slots that a message has a text for
abbrev pub line_slots : LineMessage → List Slot
line_slots line.NotsInRow = slot.Number ∷ []
line_slots line.OpenParentheses = slot.Number ∷ []
line_slots line.OpenBlocks = slot.Number ∷ []
line_slots line.Symbols = slot.Number ∷ []
line_slots line.NoWord = []
line_slots line.NoKeyword = slot.Word ∷ []
line_slots line.Misspelt = slot.Word ∷ slot.Wanted ∷ []
line_slots line.CommentSign = slot.Word ∷ []
line_slots line.AfterHelp = slot.Word ∷ slot.Number ∷ slot.Line ∷ slot.Second ∷ []
line_slots line.UnindentedHelp = slot.Word ∷ slot.Line ∷ []
line_slots line.QuotedKeyword = slot.Word ∷ []
line_slots line.ExpandedKeyword = slot.Word ∷ []
line_slots line.StrayAlone = slot.Word ∷ slot.List ∷ []
line_slots line.StrayAfterEnd = slot.Word ∷ slot.List ∷ slot.Path ∷ []
line_slots line.StrayAfter = slot.Word ∷ slot.List ∷ slot.Text ∷ []
line_slots line.ClosesNothing = slot.Word ∷ []
line_slots line.ClosesOther = slot.Word ∷ slot.Text ∷ slot.Line ∷ []
line_slots line.ClosesElsewhere = slot.Word ∷ slot.Text ∷ []
line_slots line.Unclosed = slot.Wanted ∷ slot.Line ∷ slot.Text ∷ []

abbrev pub form_slots : FormMessage → List Slot
form_slots form.WantsNot = slot.Word ∷ slot.Wanted ∷ slot.Text ∷ []
form_slots form.WantsMore = slot.Word ∷ slot.Wanted ∷ []
form_slots form.WantedNot = slot.Word ∷ slot.Wanted ∷ slot.Text ∷ []
form_slots form.WantedMore = slot.Word ∷ slot.Wanted ∷ []
form_slots form.WithForm = slot.Text ∷ slot.Form ∷ []
form_slots form.Instead = slot.Form ∷ []
form_slots form.CommentBegins = []
form_slots form.WithoutOn = slot.Text ∷ []
form_slots form.DefaultOfChoice = []
form_slots form.UnsupportedWord = slot.Text ∷ slot.Form ∷ []
form_slots form.NamedChoice = slot.Text ∷ []
form_slots form.ConditionOfDepends = slot.Text ∷ slot.Other ∷ []
form_slots form.AnyCondition = []
form_slots form.IfForPrompt = slot.Word ∷ []
form_slots form.Unquoted = slot.Kind ∷ slot.Word ∷ slot.Text ∷ []
form_slots form.UnquotedIf = slot.Kind ∷ slot.Word ∷ slot.Text ∷ slot.Other ∷ []
form_slots form.AnyUnquoted = slot.Kind ∷ slot.Word ∷ []
form_slots form.NoComment = []
form_slots form.TristateOfChoice = []
form_slots form.InChoice = slot.Text ∷ slot.Line ∷ []

abbrev pub text_slots : TextMessage → List Slot
text_slots text.FileLimit = []
text_slots text.LineLimit = []
text_slots text.SourceLimit = []
text_slots text.ReferenceLimit = []
text_slots text.ValueCharacter = []
text_slots text.InColumn = slot.Number ∷ []
text_slots text.InColumnOfLine = slot.Number ∷ slot.Line ∷ []
text_slots text.Character = slot.Text ∷ slot.Place ∷ []
text_slots text.BlankAfterBackslash = slot.Place ∷ []
text_slots text.UnclosedQuote = slot.Text ∷ slot.Place ∷ []
text_slots text.WriteAnd = []
text_slots text.WriteOr = []
text_slots text.LineForEach = []
text_slots text.CommentBegins = []
text_slots text.OfHelp = slot.Line ∷ []
text_slots text.Function = slot.Name ∷ []
text_slots text.ReservedName = slot.Name ∷ slot.Place ∷ []
text_slots text.Dollar = slot.Place ∷ []
text_slots text.DollarOfValue = slot.Place ∷ []
text_slots text.DollarOfVariable = slot.Name ∷ []
text_slots text.NeedsItself = slot.Name ∷ []

abbrev pub symbol_slots : SymbolMessage → List Slot
symbol_slots symbol.NoType = []
symbol_slots symbol.TwoTypes = slot.Kind ∷ slot.Other ∷ []
symbol_slots symbol.TwoPrompts = []
symbol_slots symbol.NoTerm = slot.Kind ∷ []
symbol_slots symbol.NoRange = slot.Kind ∷ []
symbol_slots symbol.UnfitText = slot.Value ∷ slot.Kind ∷ []
symbol_slots symbol.UnfitWord = slot.Value ∷ slot.Kind ∷ []
symbol_slots symbol.ImpliedBy = slot.Other ∷ slot.Name ∷ slot.Kind ∷ []
symbol_slots symbol.SelectedBy = slot.Other ∷ slot.Name ∷ slot.Kind ∷ []
symbol_slots symbol.Implies = slot.Other ∷ slot.Name ∷ slot.Kind ∷ []
symbol_slots symbol.Selects = slot.Other ∷ slot.Name ∷ slot.Kind ∷ []
symbol_slots symbol.OtherModules = []
symbol_slots symbol.ModulesType = slot.Kind ∷ []

abbrev pub choice_slots : ChoiceMessage → List Slot
choice_slots choice.NoPrompt = []
choice_slots choice.TwoPrompts = []
choice_slots choice.ForeignDefault = slot.Name ∷ slot.List ∷ []
choice_slots choice.NoMembers = []
choice_slots choice.OneMember = slot.List ∷ []
choice_slots choice.Members = slot.List ∷ []
choice_slots choice.ManyMembers = slot.List ∷ slot.Number ∷ []
choice_slots choice.MemberType = slot.Name ∷ slot.Kind ∷ []
choice_slots choice.MemberWithoutPrompt = slot.Name ∷ []
choice_slots choice.MemberDefinedAgain = slot.Name ∷ []

abbrev pub config_slots : ConfigMessage → List Slot
config_slots config.NotText = []
config_slots config.ConflictMark = []
config_slots config.ByteOrderMark = slot.Text ∷ []
config_slots config.NothingNamed = []
config_slots config.NoName = slot.Text ∷ slot.Number ∷ []
config_slots config.PrefixAlone = slot.Prefix ∷ []
config_slots config.BlanksAround = []
config_slots config.BlanksBefore = []
config_slots config.WithoutPrefix = slot.Prefix ∷ []
config_slots config.Meant = slot.Form ∷ []
config_slots config.UndefinedName = slot.Name ∷ []
config_slots config.Undefined = []
config_slots config.Repeated = slot.Name ∷ slot.Line ∷ []
config_slots config.NotSet = slot.Name ∷ slot.Kind ∷ slot.Path ∷ slot.Line ∷ slot.List ∷ []
config_slots config.EmptyValue = slot.Name ∷ slot.Kind ∷ slot.Path ∷ slot.Line ∷ slot.List ∷ []
config_slots config.UnfitValue = slot.Name ∷ slot.Kind ∷ slot.Path ∷ slot.Line ∷ slot.List ∷ slot.Value ∷ []
config_slots config.BlanksAfter = []
config_slots config.CommentAfter = []
config_slots config.UnclosedString = slot.Name ∷ slot.Path ∷ slot.Line ∷ []
config_slots config.BareString = slot.Name ∷ slot.Path ∷ slot.Line ∷ []
config_slots config.LongString = slot.Name ∷ slot.Path ∷ slot.Line ∷ []

abbrev pub refusal_slots : RefusalMessage → List Slot
refusal_slots refusal.Empty = []
refusal_slots refusal.Unknown = slot.Word ∷ []
refusal_slots refusal.Listed = []
refusal_slots refusal.Missing = slot.Form ∷ []
refusal_slots refusal.Spare = slot.Form ∷ []
refusal_slots refusal.WithoutPrefix = slot.Prefix ∷ []
refusal_slots refusal.Unfit = slot.Name ∷ slot.Kind ∷ slot.List ∷ []
refusal_slots refusal.NoCount = slot.Word ∷ []
refusal_slots refusal.Ended = slot.Word ∷ []

-- for the words by which a line has a node use the next: the kind of a block, and the other symbol
abbrev pub way_slots : Way → List Slot
way_slots way.Around = slot.Kind ∷ []
way_slots way.Selected = slot.Other ∷ []
way_slots (way.OfSelecting line) = slot.Other ∷ []
way_slots (way.AroundSelecting line) = slot.Kind ∷ slot.Other ∷ []
way_slots _ = []

-- for what a node has: its name, and by what
abbrev pub node_slots : Node → List Slot
node_slots node = slot.Name ∷ slot.Text ∷ []

mod Alike
mod Filled
mod Flat
mod Markup
mod SameMarkup
